use Rattle.std.proofs.Common.{refl}
use Rattle.clk_num.proofs.ArithmeticLemmas.{value_is, umulhi_is}
use Rattle.clk_num.proofs.arithmetic.umulhi.Goals as goal

pub returns : goal.returns
returns c = value_is _ _ _ _ refl (umulhi_is _ _ _ _ c.bits.ensures)
