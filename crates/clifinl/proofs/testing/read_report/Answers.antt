use Rattle.clifinl.proofs.TestEnds.{not_whole}
use Rattle.clifinl.proofs.testing.read_report.Goals as goal

pub returns-in-Err-clause-stopped : goal.returns-in-Err-clause-stopped
returns-in-Err-clause-stopped g c = not_whole _ _ _ _ _ c.in-Err.ensures.stopped
