use Rattle.std.proofs.Common.{◌∙◌, ◌%◌, ◌^◌, ℕ, ap}
use Rattle.clk_num.specs.Width.{bits_of}
use Rattle.clk_num.proofs.ArithmeticLemmas.{value_is}
use Rattle.clk_num.proofs.BitwiseLemmas.{popcnt_is}
use Rattle.clk_num.proofs.bitwise.popcnt.Goals as goal

pub returns : goal.returns
returns c =
    value_is _ _ _ _ c.new.ensures.width
    (c.new.ensures.value ∙ ap (λ (n : ℕ). n % 2 ^ bits_of c.args.x.width) c.from.ensures ∙ popcnt_is c.args.x.width c.args.x.value c.args.x.in_range)
