use Rattle.std.proofs.Common.{sym, refl}
use Rattle.clk_num.proofs.ArithmeticLemmas.{value_is, umax_first, umax_second}
use Rattle.clk_num.proofs.arithmetic.umax.Goals as goal

pub returns-then-x-y : goal.returns-then-x-y
returns-then-x-y c = value_is _ _ _ _ (sym c.requires) (umax_second _ _ _ c.if-x-y.true)

pub returns-else-x-y : goal.returns-else-x-y
returns-else-x-y c = value_is _ _ _ _ refl (umax_first _ _ _ c.if-x-y.false)
