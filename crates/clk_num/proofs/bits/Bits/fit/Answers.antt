use Rattle.std.proofs.Common.{refl}
use Rattle.clk_num.proofs.Numbers.{negative_fits, negative_passes, negative_value, positive_fits, positive_passes, positive_value, widest_negative, widest_positive}
use Rattle.clk_num.proofs.bits.Bits.fit.Goals as goal

pub returns-then-complement-greatest_signed-clause-answer :
    goal.returns-then-complement-greatest_signed-clause-answer
returns-then-complement-greatest_signed-clause-answer c =
    negative_fits _ _ _ _ c.ranges.number c.if-number-lt0.true refl c.greatest_signed.ensures c.if-complement-greatest_signed.true

pub returns-then-complement-greatest_signed-clause-value :
    goal.returns-then-complement-greatest_signed-clause-value
returns-then-complement-greatest_signed-clause-value c =
    negative_value _ _ _ _ _ c.ranges.number c.if-number-lt0.true refl c.greatest_signed.ensures c.if-complement-greatest_signed.true c.greatest.ensures

pub returns-else-complement-greatest_signed-clause-answer :
    goal.returns-else-complement-greatest_signed-clause-answer
returns-else-complement-greatest_signed-clause-answer c =
    negative_passes _ _ _ _ c.ranges.number c.if-number-lt0.true refl c.greatest_signed.ensures c.if-complement-greatest_signed.false

pub returns-then-value-greatest-clause-answer : goal.returns-then-value-greatest-clause-answer
returns-then-value-greatest-clause-answer c =
    positive_fits _ _ _ _ c.ranges.number c.if-number-lt0.false refl c.greatest-else-number-lt0.ensures c.if-value-greatest.true

pub returns-then-value-greatest-clause-value : goal.returns-then-value-greatest-clause-value
returns-then-value-greatest-clause-value c =
    positive_value _ _ _ _ c.ranges.number c.if-number-lt0.false refl c.greatest-else-number-lt0.ensures c.if-value-greatest.true

pub returns-else-value-greatest-clause-answer : goal.returns-else-value-greatest-clause-answer
returns-else-value-greatest-clause-answer c =
    positive_passes _ _ _ _ c.ranges.number c.if-number-lt0.false refl c.greatest-else-number-lt0.ensures c.if-value-greatest.false

pub returns-else-complement-greatest_signed-clause-widest :
    goal.returns-else-complement-greatest_signed-clause-widest
returns-else-complement-greatest_signed-clause-widest c = λ w.
    absurd (widest_negative _ _ _ _ w c.ranges.number c.if-number-lt0.true refl c.greatest_signed.ensures c.if-complement-greatest_signed.false)

pub returns-else-value-greatest-clause-widest : goal.returns-else-value-greatest-clause-widest
returns-else-value-greatest-clause-widest c = λ w.
    absurd (widest_positive _ _ _ _ w c.ranges.number c.if-number-lt0.false refl c.greatest-else-number-lt0.ensures c.if-value-greatest.false)
