use Rattle.std.proofs.Common.{arith}
use Rattle.text_output.proofs.Digits.{length_one, length_two, length_three, length_four, length_more, length_most}
use Rattle.text_output.proofs.waiting.digits.Goals as goal

pub overflow_add-count : goal.overflow_add-count
overflow_add-count c = omega (arith, c.four.invariant.count, length_most c.args.number (omega (arith, c.ranges.number.fits)))

pub four-preserved : goal.four-preserved
four-preserved c = record { count = omega (arith, c.four.invariant.count, length_more c.four.left (omega arith) (omega (arith, c.four.auto.left-fits.fits))) }

pub overflow_add-result : goal.overflow_add-result
overflow_add-result c = omega (arith, c.four.invariant.count, length_most c.args.number (omega (arith, c.ranges.number.fits)))

pub overflow_add-result-then-left-lt1000 : goal.overflow_add-result-then-left-lt1000
overflow_add-result-then-left-lt1000 c = omega (arith, c.four.invariant.count, length_most c.args.number (omega (arith, c.ranges.number.fits)))

pub overflow_add-result-else-left-lt1000 : goal.overflow_add-result-else-left-lt1000
overflow_add-result-else-left-lt1000 c = omega (arith, c.four.invariant.count, length_most c.args.number (omega (arith, c.ranges.number.fits)))

pub returns-then-left-lt10 : goal.returns-then-left-lt10
returns-then-left-lt10 c = omega (arith, c.four.invariant.count, length_one c.four.left (omega arith))

pub returns-then-left-lt100 : goal.returns-then-left-lt100
returns-then-left-lt100 c = omega (arith, c.four.invariant.count, length_two c.four.left (omega arith) (omega arith))

pub returns-then-left-lt1000 : goal.returns-then-left-lt1000
returns-then-left-lt1000 c = omega (arith, c.four.invariant.count, length_three c.four.left (omega arith) (omega arith))

pub returns-else-left-lt1000 : goal.returns-else-left-lt1000
returns-else-left-lt1000 c = omega (arith, c.four.invariant.count, length_four c.four.left (omega arith) (omega arith))
