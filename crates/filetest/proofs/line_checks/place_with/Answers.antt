use Rattle.filetest.proofs.LineChecking.{none_more}
use Rattle.filetest.proofs.line_checks.place_with.Goals as goal

pub loop-i-preserved : goal.loop-i-preserved
loop-i-preserved c = none_more c.args.text.now c.args.lines.now c.loop-i.i _ c.contains.result c.loop-i-test.true c.contains.ensures c.if-contains.false c.loop-i.invariant
