use Rattle.std.proofs.Common.{◌∙◌, ◌≡◌, ◌-◌, ◌%◌, ◌^◌, ℕ, ap}
use lib.Count.{count_leading_zeros}
use Rattle.clk_num.specs.Width.{bits_of}
use Rattle.clk_num.proofs.ArithmeticLemmas.{value_is}
use Rattle.clk_num.proofs.BitwiseLemmas.{leading_is, clz_is}
use Rattle.clk_num.proofs.bitwise.clz.Goals as goal

pub overflow_sub-x : goal.overflow_sub-x
overflow_sub-x c =
    let e : c.bits-above.result ≡ bits_of c.args.x.width = c.bits-above.ensures in
    rw e (leading_is c.args.x.width c.args.x.value c.args.x.in_range).0

pub returns : goal.returns
returns c =
    let e : c.bits-above.result ≡ bits_of c.args.x.width = c.bits-above.ensures in
    value_is _ _ _ _ c.new.ensures.width
    (c.new.ensures.value ∙ ap (λ (n : ℕ). n % 2 ^ bits_of c.args.x.width) (c.from.ensures ∙ ap (λ (k : ℕ). count_leading_zeros 128 c.args.x.value - (128 - k)) e)
    ∙ clz_is c.args.x.width c.args.x.value c.args.x.in_range)
