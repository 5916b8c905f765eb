use Rattle.std.proofs.Common.{◌≡◌, ℕ, ◌+◌, ◌*◌, ◌-◌, ◌<◌, List, length, take, get_or, sym, ap, ◌∙◌, arith}
use Rattle.std.proofs.lemmas.Grind.{take_at_read}
use Rattle.test_directives.specs.Commands.{digits_value}
use Rattle.test_directives.proofs.Sizes.{value_last, too_large}
use Rattle.test_directives.proofs.commands.size_of.Goals as goal

next : (ds : List ℕ) (i n d : ℕ) → i < length ds → n ≡ digits_value 0 (take i ds) → d ≡ get_or ds i 0 - 48 → 10 * n + d ≡ digits_value 0 (take (i + 1) ds)
next ds i n d less e at = (λ j. 10 * e j + at j) ∙ sym (ap (digits_value 0) (take_at_read ds i 0 less).1 ∙ value_last 0 (take i ds) (get_or ds i 0))

pub returns-then-size-gt-GREATEST_SIZE : goal.returns-then-size-gt-GREATEST_SIZE
returns-then-size-gt-GREATEST_SIZE c =
    let value = next c.args.digits.now c.loop-digit.digit-index c.loop-digit.size c.saturating_sub.result c.loop-digit-test.true c.loop-digit.invariant.value c.saturating_sub.ensures in
    sym (too_large (c.loop-digit.digit-index + 1) c.args.digits.now (omega (arith, value, c.if-size-gt-GREATEST_SIZE.true)))

pub loop-digit-preserved : goal.loop-digit-preserved
loop-digit-preserved c = record {
  value = next c.args.digits.now c.loop-digit.digit-index c.loop-digit.size c.saturating_sub.result c.loop-digit-test.true c.loop-digit.invariant.value c.saturating_sub.ensures;
  small = omega (arith, c.if-size-gt-GREATEST_SIZE.false);
}
