use Rattle.std.proofs.Common.{◌+◌, ◌∙◌, ℕ, List, ap, sym, length, arith, length-drop}
use Rattle.std.proofs.lemmas.List.{length-map, take_rest}
use denote.Ref.{Bor}
use Rattle.filetest.proofs.LineChecking.{after_take_as, after_not_as}
use Rattle.filetest.proofs.line_checks.lines_failure.Goals as goal
use Rattle.filetest.proofs.line_checks.lines_failure.Goals.{then-not-is_not+in_ok-pair+in-Takes, else-not-is_not}

pub overflow_add-left : goal.overflow_add-left
overflow_add-left c = omega (arith, (rw c.in-Takes.is at c.in_ok-pair.ensures).0, length-map c.loop-i.left.now (λ x. x.now), c.loop-i.invariant.short)

pub offset_bounds-left-at : goal.offset_bounds-left-at
offset_bounds-left-at c = omega (arith, (rw c.in-Takes.is at c.in_ok-pair.ensures).0, length-map c.loop-i.left.now (λ x. x.now), c.loop-i.invariant.short)

pub loop-i-preserved : goal.loop-i-preserved
loop-i-preserved c = elim c.if-not-is_not.branch [
  | then-not-is_not+in_ok-pair+in-Takes w ↦
      let left = ap (λ (r : Bor (List (Bor (List ℕ)))). r.now) w.left-is ∙ take_rest c.loop-i.left.now (w.in-Takes.at + 1) in
      record {
        judged = omega (arith, w.judged-is);
        short = omega (arith, ap length left, length-drop (w.in-Takes.at + 1) c.loop-i.left.now, c.loop-i.invariant.short);
        same = after_take_as c.args.tests.now c.loop-i.left.now _ c.loop-i.i w.in-Takes.at _ w.index-tests-i-then-not-is_not.result _ _ w.judged-is left c.loop-i-test.true w.index-tests-i-then-not-is_not.is (rw w.in-Takes.is at w.in_ok-pair.ensures).1 c.loop-i.invariant.same;
      }
  | else-not-is_not w ↦
      let left = ap (λ (r : Bor (List (Bor (List ℕ)))). r.now) w.left-is in
      record {
        judged = omega (arith, w.judged-is, c.loop-i.invariant.judged);
        short = omega (arith, ap length left, c.loop-i.invariant.short);
        same = after_not_as c.args.tests.now c.loop-i.left.now _ c.loop-i.judged _ c.loop-i.i c.index-tests-i.result _ w.judged-is left c.loop-i.invariant.judged c.loop-i-test.true c.index-tests-i.is (sym c.is_not.ensures ∙ w.if-not-is_not.false) c.loop-i.invariant.same;
      }
]
