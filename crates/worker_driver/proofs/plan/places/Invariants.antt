use Rattle.std.proofs.Common.{◌≡◌, ℕ, ◌<◌, length, Some}
use Rattle.std.specs.Prelude.{slice_get}
use Rattle.worker_driver.proofs.plan.places.Given as goal

abbrev pub invariant-loop-i : goal.invariant-loop-i
invariant-loop-i l = record {
  long : length l.places.items ≡ length l.list;
  place : (t k : ℕ) → t < l.i → slice_get l.list t ≡ Some k → slice_get l.places.items k ≡ Some t;
}
