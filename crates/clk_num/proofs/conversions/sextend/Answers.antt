use Rattle.std.proofs.Common.{◌∙◌}
use Rattle.clk_num.proofs.ArithmeticLemmas.{value_is}
use Rattle.clk_num.proofs.ConversionLemmas.{sextend_is}
use Rattle.clk_num.proofs.conversions.sextend.Goals as goal

pub returns : goal.returns
returns c = value_is _ _ _ _ c.wrap.ensures.width (c.wrap.ensures.value ∙ sextend_is _ _ _ _ c.signed.type_inv c.signed.ensures)
