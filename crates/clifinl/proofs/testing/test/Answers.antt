use Rattle.clifinl.proofs.TestEnds.{ended, stopped}
use Rattle.clifinl.proofs.testing.test.Goals as goal

pub returns-in-Ok-clause-run : goal.returns-in-Ok-clause-run
returns-in-Ok-clause-run g c = ended _ _ _ c.in-Ok.ensures.report _ c.write_report-status.ensures.wrote

pub returns-in-Err-clause-run : goal.returns-in-Err-clause-run
returns-in-Err-clause-run g c = stopped _ _ _ c.in-Err.ensures.stopped
