use Rattle.std.proofs.Common.{◌≡◌, Some, map}
use Rattle.range_workers.proofs.drawing.take_all.Given as goal

abbrev pub invariant-loop-place : goal.invariant-loop-place
invariant-loop-place g l = l.yielded ≡ map (λ x. Some x) l.all.items
