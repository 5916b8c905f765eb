use Rattle.settings.specs.Shown.{run_shown}
use Rattle.clifinl.proofs.RunEnds.{ended, stopped}
use Rattle.clifinl.proofs.running.run_with.Goals as goal

pub returns-in-Ok-clause-run : goal.returns-in-Ok-clause-run
returns-in-Ok-clause-run g c =
    ended (run_shown c.args.asked.now) _ _ c.args.script.now _ c.requires c.in-Ok.ensures.read _
    c.write_run-status.ensures.wrote

pub returns-in-Err-clause-run : goal.returns-in-Err-clause-run
returns-in-Err-clause-run g c =
    stopped (run_shown c.args.asked.now) _ _ (c.args.script.now, c.requires) c.in-Err.status c.in-Err.ensures.stopped
