use Rattle.std.proofs.Common.{All}
use Rattle.range_workers.specs.Drawn.{IsGiven}
use Rattle.range_workers.proofs.drawing.draw.Given as goal

abbrev pub invariant-loop : goal.invariant-loop
invariant-loop g l = All (IsGiven g.F.Fn l.f l.count) l.all.items
