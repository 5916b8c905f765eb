use Rattle.std.proofs.Common.{ℕ, List, refl, subst}
use Rattle.settings.specs.Shown.{run_shown}
use Rattle.clifinl.specs.RunCommand.{IsScriptRefusal, ReadsScript}
use Rattle.clifinl.proofs.RunEnds.{script_kept, script_refused}
use Rattle.clifinl.proofs.running.run.Goals as goal

pub returns-in-Err-clause-run : goal.returns-in-Err-clause-run
returns-in-Err-clause-run g c =
    script_refused (run_shown c.args.asked.now) _ _ c.in-Err.status
    (subst (λ (text : List ℕ). IsScriptRefusal text c.in-Err.status) c.as_str.ensures.value c.in-Err.ensures.refused)
    (record { left = refl; faults = refl })

pub returns-in-Ok-clause-unread : goal.returns-in-Ok-clause-unread
returns-in-Ok-clause-unread g c = λ count is.
    absurd (script_kept (run_shown c.args.asked.now) _ _ c.in-Ok.script _
    (subst (λ (text : List ℕ). ReadsScript text c.in-Ok.script) c.as_str.ensures.value c.in-Ok.ensures.read)
    c.run_with.ensures.run count is)
