use Rattle.std.proofs.Common.{rules, ◌≡◌, sym, subst}
use Rattle.ir_core.specs.WellFormed.{WellFormed}
use Rattle.caller_tests.proofs.splices.replaced_by.Goals as goal

pub replace_first-requires-clause-whole : goal.replace_first-requires-clause-whole
replace_first-requires-clause-whole g c =
    let same : c.in_ok-caller.caller.function ≡ c.function.result.now.function = search rules in
    (subst WellFormed (sym same) c.function.ensures.whole, c.function-callee.ensures.whole)
