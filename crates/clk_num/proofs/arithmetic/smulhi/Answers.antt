use Rattle.std.proofs.Common.{◌∙◌, subst, sym, ℤ, ◌*ℤ◌, FitsSigned}
use Rattle.std.specs.Int.{w128}
use Rattle.clk_num.proofs.Numbers.{read_both}
use Rattle.clk_num.proofs.ArithmeticLemmas.{value_is, smulhi_is, signed_product_fits}
use Rattle.clk_num.proofs.arithmetic.smulhi.Goals as goal
use Rattle.std.proofs.Common.{refl}

pub overflow_mul-signed : goal.overflow_mul-signed
overflow_mul-signed c =
    subst (λ (z : ℤ). FitsSigned w128 z) (sym (read_both ◌*ℤ◌ c.signed.result c.signed-2.result _ _ c.signed.type_inv c.signed-2.type_inv refl refl))
    (signed_product_fits _ _ _ _ _ _ c.requires.same c.requires.narrow c.args.x.in_range c.args.y.in_range c.signed.ensures c.signed-2.ensures)

pub returns : goal.returns
returns c =
    value_is _ _ _ _ c.wrap.ensures.width
    (c.wrap.ensures.value
    ∙ smulhi_is _ _ _ _ _ _ _ c.requires.same c.requires.narrow c.args.x.in_range c.args.y.in_range c.signed.type_inv c.signed-2.type_inv
    c.signed.ensures c.signed-2.ensures c.bits.ensures)
