use Rattle.std.proofs.Common.{◌≡◌, ℕ, ◌<◌, length, get_or}
use Rattle.std.specs.Fn.{FnReturns}
use Rattle.range_workers.proofs.drawing.map_in_turn.Given as goal

abbrev pub invariant-loop-i : goal.invariant-loop-i
invariant-loop-i g l = record {
  number : length l.all.items ≡ l.i;
  each : (k : ℕ) (d : _) → k < l.i → FnReturns g.F.Fn l.f (k, tt) (get_or l.all.items k d);
}
