use Rattle.std.proofs.Common.{◌∙◌, refl}
use Rattle.clk_num.proofs.ArithmeticLemmas.{value_is}
use Rattle.clk_num.proofs.ShiftLemmas.{rotr_is, rotr_none}
use Rattle.clk_num.proofs.shifts.rotr.Goals as goal

pub returns-then-down-eq0 : goal.returns-then-down-eq0
returns-then-down-eq0 c = value_is _ _ _ _ refl (rotr_none _ _ _ _ c.amount-down.ensures.value c.if-down-eq0.true)

pub returns-else-down-eq0 : goal.returns-else-down-eq0
returns-else-down-eq0 c =
    value_is _ _ _ _ c.rotated.ensures.width
    (c.rotated.ensures.value ∙ rotr_is _ _ _ _ _ c.amount-down.ensures.value c.amount-down.ensures.bound c.bits.ensures)
