use Rattle.std.proofs.Common.{◌∙◌}
use Rattle.clk_num.proofs.ArithmeticLemmas.{value_is}
use Rattle.clk_num.proofs.ConversionLemmas.{low_half_is}
use Rattle.clk_num.proofs.conversions.low_half.Goals as goal

pub returns : goal.returns
returns c = value_is _ _ _ _ (c.new.ensures.width ∙ c.half.ensures) (c.new.ensures.value ∙ low_half_is _ _ _ c.half.ensures)
