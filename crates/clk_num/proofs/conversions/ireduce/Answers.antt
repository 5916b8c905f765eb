use Rattle.std.proofs.Common.{◌∙◌}
use Rattle.clk_num.proofs.ArithmeticLemmas.{value_is}
use Rattle.clk_num.proofs.ConversionLemmas.{ireduce_is}
use Rattle.clk_num.proofs.conversions.ireduce.Goals as goal

pub returns : goal.returns
returns c = value_is _ _ _ _ c.new.ensures.width (c.new.ensures.value ∙ ireduce_is _ _)
