use Rattle.std.proofs.Common.{◌≡◌, true, false, Option, option_map, IfOk, sym, subst, ◌∙◌}
use Rattle.test_directives.specs.Directives.{Wanted}
use Rattle.test_directives.specs.Views as views
use Rattle.test_directives.proofs.RunReadings.{wanted_by}
use Rattle.test_directives.proofs.runs.wanted_of.Goals as goal

pub returns-then-begins : goal.returns-then-begins
returns-then-begins c =
    subst (λ (m : Option Wanted). IfOk c.equal_of.result (λ w. option_map views.wanted_of w ≡ m))
    (wanted_by c.args.text.now c.trim_front-rest.result.now true c.trim_front-rest.ensures (sym c.is_empty.ensures ∙ c.if-is_empty.false) (sym c.begins.ensures ∙ c.if-begins.true))
    c.equal_of.ensures

pub returns-else-begins : goal.returns-else-begins
returns-else-begins c =
    subst (λ (m : Option Wanted). IfOk c.unequal_of.result (λ w. option_map views.wanted_of w ≡ m))
    (wanted_by c.args.text.now c.trim_front-rest.result.now false c.trim_front-rest.ensures (sym c.is_empty.ensures ∙ c.if-is_empty.false) (sym c.begins.ensures ∙ c.if-begins.false))
    c.unequal_of.ensures
