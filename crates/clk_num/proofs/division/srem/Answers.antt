use Rattle.std.proofs.Common.{◌∙◌}
use Rattle.clk_num.proofs.ArithmeticLemmas.{value_is}
use Rattle.clk_num.proofs.DivisionLemmas.{trapped, passed, by_zero, by_other, divisor_not_zero_again, srem_is}
use Rattle.clk_num.proofs.division.srem.Goals as goal

pub returns-then-y-eq0 : goal.returns-then-y-eq0
returns-then-y-eq0 c = trapped _ _ _ (by_zero _ _ _ c.if-y-eq0.true)

pub wrapping_rem-requires : goal.wrapping_rem-requires
wrapping_rem-requires c =
    divisor_not_zero_again c.args.x.width c.args.y.width c.args.x.value c.args.y.value c.signed.result c.signed-else-y-eq0.result c.requires
    c.signed.type_inv c.signed-else-y-eq0.type_inv c.signed.ensures c.signed-else-y-eq0.ensures c.args.x.in_range c.args.y.in_range c.if-y-eq0.false

pub returns-else-y-eq0 : goal.returns-else-y-eq0
returns-else-y-eq0 c =
    passed _ _ _ (by_other _ _ _ c.if-y-eq0.false) (value_is _ _ _ _ c.wrap.ensures.width (c.wrap.ensures.value
    ∙ srem_is c.args.x.width c.args.y.width c.args.x.value c.args.y.value c.signed.result c.signed-else-y-eq0.result c.requires
    c.signed.type_inv c.signed-else-y-eq0.type_inv c.signed.ensures c.signed-else-y-eq0.ensures c.args.x.in_range c.args.y.in_range c.if-y-eq0.false
    c.wrapping_rem.result c.wrapping_rem.ensures))
