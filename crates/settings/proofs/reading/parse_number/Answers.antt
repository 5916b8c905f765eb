use Rattle.std.proofs.Common.{arith}
use Rattle.settings.proofs.Numbers.{above_range, below_range, in_range, no_number}
use Rattle.settings.proofs.reading.parse_number.Goals as goal

pub returns-in-Ok-clause-value : goal.returns-in-Ok-clause-value
returns-in-Ok-clause-value c = in_range c.args.least c.args.most c.args.text.now c.in-Ok.number c.in-Ok.ensures.value.0 c.if-least-number.true c.if-number-most.true

pub returns-in_default-clause-value : goal.returns-in_default-clause-value
returns-in_default-clause-value c = above_range c.args.least c.args.most c.args.text.now c.in-Ok.number c.in-Ok.ensures.value.0 c.if-number-most.false

pub returns-in_default-2-clause-value : goal.returns-in_default-2-clause-value
returns-in_default-2-clause-value c = below_range c.args.least c.args.most c.args.text.now c.in-Ok.number c.in-Ok.ensures.value.0 c.if-least-number.false

pub returns-in_default-3-clause-value : goal.returns-in_default-3-clause-value
returns-in_default-3-clause-value c = no_number c.args.least c.args.most c.args.text.now c.in_default.ensures.value.0 (omega (arith, c.ranges.most.fits))
