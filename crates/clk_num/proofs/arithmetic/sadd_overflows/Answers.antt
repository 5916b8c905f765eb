use Rattle.std.proofs.Common.{sym, ◌∙◌, subst, ◌+ℤ◌, ℤ, FitsSigned}
use Rattle.std.specs.Int.{w128}
use Rattle.clk_num.proofs.ArithmeticLemmas.{signed_result, tested, outside, sadd_tested}
use Rattle.clk_num.proofs.arithmetic.sadd_overflows.Goals as goal

pub returns-in-Some : goal.returns-in-Some
returns-in-Some c =
    let result = signed_result ◌+ℤ◌ _ _ _ _ _ _ c.requires c.signed.type_inv c.signed-2.type_inv c.signed.ensures c.signed-2.ensures in
    let fact = c.in-Some.ensures in
    sadd_tested _ _ _ _ (tested _ _ _ _ (subst (λ (z : ℤ). FitsSigned w128 z) result fact.0) (fact.1 ∙ result) c.holds_signed.ensures)

pub returns-in-None : goal.returns-in-None
returns-in-None c =
    let result = signed_result ◌+ℤ◌ _ _ _ _ _ _ c.requires c.signed.type_inv c.signed-2.type_inv c.signed.ensures c.signed-2.ensures in
    sadd_tested _ _ _ _ (outside _ _ (λ f. c.in-None.ensures (subst (λ (z : ℤ). FitsSigned w128 z) (sym result) f)))
