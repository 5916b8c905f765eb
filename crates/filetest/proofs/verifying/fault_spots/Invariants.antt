use Rattle.std.proofs.Common.{◌≡◌, ℕ, length, Option, Some, slice_get}
use Rattle.clif_meaning.specs.Reads.{alone}
use Rattle.filetest.specs.FaultLines.{IsFaultSpot}
use Rattle.filetest.proofs.verifying.fault_spots.Given as goal

abbrev pub invariant-loop-func : goal.invariant-loop-func
invariant-loop-func l = record {
  count : length l.spots.items ≡ l.func;
  each : (i : ℕ) (spot : Option ℕ) → slice_get l.spots.items i ≡ Some spot → IsFaultSpot (alone l.raw i) spot;
}
