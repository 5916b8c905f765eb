use Rattle.std.proofs.Common.{◌∙◌}
use Rattle.clk_num.proofs.ArithmeticLemmas.{value_is}
use Rattle.clk_num.proofs.BitwiseLemmas.{bxor_is}
use Rattle.clk_num.proofs.bitwise.bxor.Goals as goal

pub returns : goal.returns
returns c = value_is _ _ _ _ c.new.ensures.width (c.new.ensures.value ∙ bxor_is _ _ _)
