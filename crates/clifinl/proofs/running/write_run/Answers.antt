use Rattle.settings.specs.Shown.{run_shown}
use Rattle.clifinl.proofs.RunEnds.{entry_ends}
use Rattle.clifinl.proofs.running.write_run.Goals as goal

pub returns-in-Ok-clause-wrote : goal.returns-in-Ok-clause-wrote
returns-in-Ok-clause-wrote g c =
    entry_ends (run_shown c.args.asked.now) c.args.script.now c.args.checked.now c.in-Ok.outcome c.in-Ok.ensures.outcome
    _ _ _ _ _ c.write_outcome-status.ensures.wrote
