use Rattle.std.proofs.Common.{sym, refl}
use Rattle.clk_num.proofs.ArithmeticLemmas.{value_is, umin_first, umin_second}
use Rattle.clk_num.proofs.arithmetic.umin.Goals as goal

pub returns-then-y-x : goal.returns-then-y-x
returns-then-y-x c = value_is _ _ _ _ (sym c.requires) (umin_second _ _ _ c.if-y-x.true)

pub returns-else-y-x : goal.returns-else-y-x
returns-else-y-x c = value_is _ _ _ _ refl (umin_first _ _ _ c.if-y-x.false)
