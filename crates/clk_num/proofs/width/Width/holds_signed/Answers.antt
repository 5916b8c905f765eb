use Rattle.clk_num.proofs.Numbers.{held_above, held_below}
use Rattle.clk_num.proofs.width.Width.holds_signed.Goals as goal

pub returns-then-greatest-number : goal.returns-then-greatest-number
returns-then-greatest-number c = held_above _ _ _ c.greatest_signed-greatest.ensures c.ranges.number c.if-greatest-number.true

pub returns-else-greatest-number : goal.returns-else-greatest-number
returns-else-greatest-number c = held_below _ _ _ c.greatest_signed-greatest.ensures c.ranges.number c.if-greatest-number.false
