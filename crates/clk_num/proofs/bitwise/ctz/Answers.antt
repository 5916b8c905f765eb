use Rattle.std.proofs.Common.{◌∙◌, ◌≡◌, ◌%◌, ◌^◌, min, ℕ, ap}
use lib.Count.{count_trailing_zeros}
use Rattle.clk_num.specs.Width.{bits_of}
use Rattle.clk_num.proofs.ArithmeticLemmas.{value_is}
use Rattle.clk_num.proofs.BitwiseLemmas.{ctz_is}
use Rattle.clk_num.proofs.bitwise.ctz.Goals as goal

pub returns : goal.returns
returns c =
    let e : c.bits.result ≡ bits_of c.args.x.width = c.bits.ensures in
    value_is _ _ _ _ c.new.ensures.width
    (c.new.ensures.value ∙ ap (λ (n : ℕ). n % 2 ^ bits_of c.args.x.width) (c.from.ensures ∙ c.min.ensures ∙ ap (λ (k : ℕ). min (count_trailing_zeros 128 c.args.x.value) k) e)
    ∙ ctz_is c.args.x.width c.args.x.value)
