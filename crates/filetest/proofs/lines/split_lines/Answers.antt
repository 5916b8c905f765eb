use Rattle.std.proofs.Common.{◌∙◌, ◌++◌, sym, ap, arith}
use Rattle.std.proofs.lemmas.List.{map_push}
use Rattle.filetest.specs.Views.{seen_lines}
use Rattle.filetest.proofs.Cutting.{at_line_feed, at_other}
use Rattle.filetest.proofs.lines.split_lines.Goals as goal
use Rattle.filetest.proofs.lines.split_lines.Goals.{then-text-i-eq10+in_ok-push, else-text-i-eq10}

pub loop-i-preserved : goal.loop-i-preserved
loop-i-preserved c =
    let text = c.args.text.now in
    let before = seen_lines c.loop-i.lines.items in
    elim c.if-text-i-eq10.branch [
      | then-text-i-eq10+in_ok-push w ↦ record {
        start = omega arith;
        lines = rw (w.lines-is, w.start-is, w.in_ok-push.ensures.items, map_push)
            (sym (at_line_feed text before c.loop-i.start c.loop-i.i c.loop-i-test.true w.if-text-i-eq10.true) ∙ c.loop-i.invariant.lines);
      }
      | else-text-i-eq10 w ↦ record {
        start = omega arith;
        lines = rw (w.lines-is, w.start-is)
            (sym (ap (λ xs. before ++ xs) (at_other text c.loop-i.start c.loop-i.i c.loop-i.invariant.start c.loop-i-test.true w.if-text-i-eq10.false)) ∙ c.loop-i.invariant.lines);
      }
    ]
