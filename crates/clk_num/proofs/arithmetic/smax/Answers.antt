use Rattle.std.proofs.Common.{sym, refl, ◌∙◌}
use Rattle.std.specs.Int.RustNames.{int_lt}
use Rattle.clk_num.proofs.ArithmeticLemmas.{value_is, signed_test, smax_first, smax_second}
use Rattle.clk_num.proofs.arithmetic.smax.Goals as goal

pub returns-then-signed : goal.returns-then-signed
returns-then-signed c =
    let test = signed_test int_lt _ _ _ _ _ _ c.requires c.signed.type_inv c.signed-2.type_inv c.signed.ensures c.signed-2.ensures in
    value_is _ _ _ _ (sym c.requires) (smax_second _ _ _ (sym test ∙ c.if-signed.true))

pub returns-else-signed : goal.returns-else-signed
returns-else-signed c =
    let test = signed_test int_lt _ _ _ _ _ _ c.requires c.signed.type_inv c.signed-2.type_inv c.signed.ensures c.signed-2.ensures in
    value_is _ _ _ _ refl (smax_first _ _ _ (sym test ∙ c.if-signed.false))
