use Rattle.std.proofs.Common.{◌∙◌}
use Rattle.clk_num.proofs.ArithmeticLemmas.{value_is, iadd_is}
use Rattle.clk_num.proofs.arithmetic.iadd.Goals as goal

pub returns : goal.returns
returns c = value_is _ _ _ _ c.new.ensures.width (c.new.ensures.value ∙ iadd_is _ _ _)
