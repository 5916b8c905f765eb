use Rattle.std.proofs.Common.{refl}
use Rattle.clk_num.proofs.ArithmeticLemmas.{value_is}
use Rattle.clk_num.proofs.ShiftLemmas.{ushr_is}
use Rattle.clk_num.proofs.shifts.ushr.Goals as goal

pub returns : goal.returns
returns c = value_is _ _ _ _ refl (ushr_is _ _ _ _ c.amount.ensures.value)
