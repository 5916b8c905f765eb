use Rattle.std.proofs.Common.{◌≡◌, ℕ, ◌+◌, ◌<◌, ◌≤◌, length, Some, None}
use Rattle.std.specs.Prelude.{slice_get}
use Rattle.module_pass.specs.Places.{IsFilled}
use Rattle.module_pass.proofs.Costs.{cost}
use Rattle.module_pass.proofs.passing.bodies.Given as goal

abbrev pub invariant-loop-func : goal.invariant-loop-func
invariant-loop-func g l = record {
  kind : (l.places.functions ≡ l.«module») × (l.places.policy ≡ l.fn.policy);
  long : length l.places.built ≡ length l.«module»;
  left : (t k : ℕ) → l.func-index ≤ t → slice_get l.order.list t ≡ Some k → slice_get l.places.built k ≡ Some None;
  steps : l.steps ≡ l.initial.steps + cost l.places.built;
  done : (t k : ℕ) → t < l.func-index → slice_get l.order.list t ≡ Some k → IsFilled l.places.built k;
}
