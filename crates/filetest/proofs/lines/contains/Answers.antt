use Rattle.std.proofs.Common.{◌∙◌, arith}
use Rattle.filetest.proofs.Containing.{found_is_contained, longer_is_not}
use Rattle.filetest.proofs.lines.contains.Goals as goal

pub returns : goal.returns
returns c = c.is_some.ensures ∙ found_is_contained c.args.line.now c.args.text.now c.find.result c.find.ensures

pub returns-then-text-line : goal.returns-then-text-line
returns-then-text-line c = longer_is_not c.args.line.now c.args.text.now (omega (arith, c.if-text-line.true))
