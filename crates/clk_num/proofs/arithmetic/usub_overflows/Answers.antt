use Rattle.clk_num.proofs.ArithmeticLemmas.{usub_overflows_is}
use Rattle.clk_num.proofs.arithmetic.usub_overflows.Goals as goal

pub returns : goal.returns
returns c = usub_overflows_is _ _ _
