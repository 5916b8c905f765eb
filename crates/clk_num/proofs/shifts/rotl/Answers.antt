use Rattle.std.proofs.Common.{◌∙◌}
use Rattle.clk_num.proofs.ArithmeticLemmas.{value_is}
use Rattle.clk_num.proofs.ShiftLemmas.{rotl_is}
use Rattle.clk_num.proofs.shifts.rotl.Goals as goal

pub returns : goal.returns
returns c = value_is _ _ _ _ c.rotated.ensures.width (c.rotated.ensures.value ∙ rotl_is _ _ _ _ c.amount.ensures.value)
