use Rattle.std.proofs.Common.{◌∙◌}
use Rattle.clk_num.proofs.Numbers.{cut_from_code}
use Rattle.clk_num.proofs.bits.Bits.wrap.Goals as goal

pub returns-clause-value : goal.returns-clause-value
returns-clause-value c =
    c.new.ensures.value ∙ cut_from_code c.args.width c.args.number c.cast_unsigned.result c.ranges.number c.cast_unsigned.ensures
