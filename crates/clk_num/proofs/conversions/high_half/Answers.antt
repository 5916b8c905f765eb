use Rattle.std.proofs.Common.{◌∙◌}
use Rattle.clk_num.proofs.ArithmeticLemmas.{value_is}
use Rattle.clk_num.proofs.ConversionLemmas.{high_half_is}
use Rattle.clk_num.proofs.conversions.high_half.Goals as goal

pub returns : goal.returns
returns c = value_is _ _ _ _ (c.new.ensures.width ∙ c.half-width.ensures) (c.new.ensures.value ∙ high_half_is _ _ _ _ c.requires c.args.x.in_range c.half-width.ensures c.bits.ensures)
