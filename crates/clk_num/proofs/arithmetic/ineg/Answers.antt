use Rattle.std.proofs.Common.{◌∙◌}
use Rattle.clk_num.proofs.ArithmeticLemmas.{value_is, ineg_is}
use Rattle.clk_num.proofs.arithmetic.ineg.Goals as goal

pub returns : goal.returns
returns c = value_is _ _ _ _ c.new.ensures.width (c.new.ensures.value ∙ ineg_is _ _ c.args.x.in_range)
