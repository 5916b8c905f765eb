use Rattle.clk_num.proofs.ArithmeticLemmas.{uadd_overflows_is}
use Rattle.clk_num.proofs.arithmetic.uadd_overflows.Goals as goal

pub returns : goal.returns
returns c = uadd_overflows_is _ _ _ _ c.args.x.in_range c.greatest.ensures
