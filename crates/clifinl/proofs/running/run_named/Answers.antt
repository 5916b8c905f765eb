use Rattle.std.proofs.Common.{ℕ, List, subst}
use Rattle.settings.specs.Shown.{run_shown}
use Rattle.clifinl.specs.RunCommand.{IsListRefusal}
use Rattle.clifinl.proofs.RunEnds.{list_refused}
use Rattle.clifinl.proofs.running.run_named.Goals as goal

pub returns-in-Err-clause-refused : goal.returns-in-Err-clause-refused
returns-in-Err-clause-refused c =
    list_refused (run_shown c.args.asked.now) c.args.checked.now (c.args.name.now, c.requires) c.in-Err.status
    (subst (λ (text : List ℕ). IsListRefusal text c.in-Err.status) c.as_str.ensures.value c.in-Err.ensures.refused)
