use Rattle.std.proofs.Common.{All, IfOk, Result, Vec, Global, arith}
use Rattle.std.proofs.lemmas.List.Elements.{All-same, All-rest}
use Rattle.std.proofs.lemmas.Result.{IfOk-weaker, IfOk-at_ok}
use Rattle.std.specs.declared.alloc.AllocError.{AllocError}
use Rattle.range_workers.specs.Drawn.{IsGiven}
use Rattle.range_workers.specs.declared.drawing.Drawn.{Drawn}
use Rattle.range_workers.proofs.DrawnLemmas.{of_first, first_placed, all_placed}
use Rattle.range_workers.proofs.drawing.map_drawn.Goals as goal

pub loop-drawn-init : goal.loop-drawn-init
loop-drawn-init g c =
    let P : Drawn g.row.X.Denot → Type 0 = IsGiven g.F.Fn c.args.f.now c.args.count in
    let Q : Result (Vec (Drawn g.row.X.Denot) Global) AllocError → Type 0 = λ answer. IfOk answer (λ drawn. All P drawn.items) in
    let first : Q c.in-Some.answer = of_first Q _ _ _ c.in-Some.ensures.steps.0 c.loop-answer.invariant.left in
    record {
      left = All-rest Q _ _ _ c.in-Some.ensures.steps.0 c.loop-answer.invariant.left;
      drawn = All-same P _ _ c.into_iter-drawn-iterator.ensures.into_iter_gives.0 (IfOk-at_ok (λ drawn. All P drawn.items) c.in_ok-drawn-items.was first);
      placed = c.loop-answer.invariant.placed;
    }

pub index_mut-requires : goal.index_mut-requires
index_mut-requires g c =
    let first = of_first (IsGiven g.F.Fn c.args.f.now c.args.count) _ _ _ c.in-Some-drawn.ensures.steps.0 c.loop-drawn.invariant.drawn in
    omega (arith, first.0, c.loop-drawn.invariant.placed.number)

pub loop-drawn-preserved-in-Some-drawn : goal.loop-drawn-preserved-in-Some-drawn
loop-drawn-preserved-in-Some-drawn g c =
    let next = first_placed g.F.Fn c.args.f.now c.args.count _ _ _ _ c.in-Some-drawn.ensures.steps.0 c.loop-drawn.invariant.drawn c.loop-drawn.invariant.placed in
    record { left = c.loop-drawn.invariant.left; drawn = next.0; placed = next.1 }

pub loop-drawn-preserved : goal.loop-drawn-preserved
loop-drawn-preserved g c =
    let next = first_placed g.F.Fn c.args.f.now c.args.count _ _ _ _ c.in-Some-drawn.ensures.steps.0 c.loop-drawn.invariant.drawn c.loop-drawn.invariant.placed in
    record { left = c.loop-drawn.invariant.left; drawn = next.0; placed = next.1 }

pub returns-clause-each : goal.returns-clause-each
returns-clause-each g c = IfOk-weaker c.take_all.result _ _ (λ all e. all_placed g.F.Fn c.args.f.now c.args.count _ all.items c.loop-answer.invariant.placed e) c.take_all.ensures
