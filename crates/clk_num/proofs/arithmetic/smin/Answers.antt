use Rattle.std.proofs.Common.{sym, refl, ◌∙◌}
use Rattle.std.specs.Int.RustNames.{int_lt}
use Rattle.clk_num.proofs.ArithmeticLemmas.{value_is, signed_test, smin_first, smin_second}
use Rattle.clk_num.proofs.arithmetic.smin.Goals as goal

pub returns-then-signed : goal.returns-then-signed
returns-then-signed c =
    let test = signed_test (λ b a. int_lt a b) _ _ _ _ _ _ c.requires c.signed-2.type_inv c.signed.type_inv c.signed-2.ensures c.signed.ensures in
    value_is _ _ _ _ (sym c.requires) (smin_second _ _ _ (sym test ∙ c.if-signed.true))

pub returns-else-signed : goal.returns-else-signed
returns-else-signed c =
    let test = signed_test (λ b a. int_lt a b) _ _ _ _ _ _ c.requires c.signed-2.type_inv c.signed.type_inv c.signed-2.ensures c.signed.ensures in
    value_is _ _ _ _ refl (smin_first _ _ _ (sym test ∙ c.if-signed.false))
