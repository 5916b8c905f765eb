use Rattle.std.proofs.Common.{All, IfOk}
use Rattle.range_workers.specs.Drawn.{IsGiven}
use Rattle.range_workers.proofs.DrawnLemmas.{ArePlaced}
use Rattle.range_workers.proofs.drawing.map_drawn.Given as goal

abbrev pub invariant-loop-drawn : goal.invariant-loop-drawn
invariant-loop-drawn g l = record {
  left : All (λ answer. IfOk answer (λ drawn. All (IsGiven g.F.Fn l.fn.f l.fn.count) drawn.items)) l.answer-iterator.rest.items;
  drawn : All (IsGiven g.F.Fn l.fn.f l.fn.count) l.drawn-iterator.rest.items;
  placed : ArePlaced g.F.Fn l.fn.f l.fn.count l.places.items;
}

abbrev pub invariant-loop-answer : goal.invariant-loop-answer
invariant-loop-answer g l = record {
  left : All (λ answer. IfOk answer (λ drawn. All (IsGiven g.F.Fn l.fn.f l.fn.count) drawn.items)) l.answer-iterator.rest.items;
  placed : ArePlaced g.F.Fn l.fn.f l.fn.count l.places.items;
}
