use Rattle.std.proofs.Common.{◌∙◌}
use Rattle.clk_num.proofs.ArithmeticLemmas.{value_is}
use Rattle.clk_num.proofs.BitwiseLemmas.{bitrev_is}
use Rattle.clk_num.proofs.bitwise.bitrev.Goals as goal

pub returns : goal.returns
returns c =
    value_is _ _ _ _ c.new.ensures.width
    (c.new.ensures.value ∙ bitrev_is c.args.x.width c.args.x.value _ _ c.args.x.in_range c.reverse_bits.ensures c.bits-above.ensures)
