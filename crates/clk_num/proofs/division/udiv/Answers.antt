use Rattle.std.proofs.Common.{◌∙◌}
use Rattle.clk_num.proofs.ArithmeticLemmas.{value_is}
use Rattle.clk_num.proofs.DivisionLemmas.{trapped, passed, by_zero, by_other, udiv_is}
use Rattle.clk_num.proofs.division.udiv.Goals as goal

pub returns-then-y-eq0 : goal.returns-then-y-eq0
returns-then-y-eq0 c = trapped _ _ _ (by_zero _ _ _ c.if-y-eq0.true)

pub returns-else-y-eq0 : goal.returns-else-y-eq0
returns-else-y-eq0 c =
    passed _ _ _ (by_other _ _ _ c.if-y-eq0.false) (value_is _ _ _ _ c.new.ensures.width (c.new.ensures.value ∙ udiv_is _ _ _ c.args.x.in_range))
