use Rattle.std.proofs.Common.{◌∙◌}
use Rattle.filetest.proofs.LineChecking.{finds_text, lacks_text}
use Rattle.filetest.proofs.line_checks.found_any.Goals as goal

pub returns-in-Some : goal.returns-in-Some
returns-in-Some c = finds_text c.args.nots.now c.args.range.now c.loop-i.i c.in-Some.at _ _ c.as_slice-text.result.now c.in_ok-of.field-0 c.loop-i-test.true c.as_slice-text.ensures c.in-Some.ensures c.in_ok-of.ensures.0 c.in_ok-of.ensures.1 ∙ c.loop-i.invariant

pub loop-i-preserved : goal.loop-i-preserved
loop-i-preserved c = lacks_text c.args.nots.now c.args.range.now c.loop-i.i _ c.as_slice-text.result.now c.loop-i-test.true c.as_slice-text.ensures c.in_default.ensures ∙ c.loop-i.invariant
