use Rattle.std.proofs.Common.{◌∙◌}
use Rattle.clk_num.proofs.ArithmeticLemmas.{value_is}
use Rattle.clk_num.proofs.ShiftLemmas.{ishl_is}
use Rattle.clk_num.proofs.shifts.ishl.Goals as goal

pub returns : goal.returns
returns c = value_is _ _ _ _ c.new.ensures.width (c.new.ensures.value ∙ ishl_is _ _ _ _ c.amount.ensures.value)
