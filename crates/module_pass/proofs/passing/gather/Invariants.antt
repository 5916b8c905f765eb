use Rattle.std.proofs.Common.{◌≡◌, ℕ, ◌≤◌, ◌*◌, length, map, sum, take}
use Rattle.std.specs.Prelude.{slice_get}
use Rattle.ir_semantics.specs.Canon.{SameUpToNumbering}
use Rattle.inline_pass.specs.Finished.{finished}
use Rattle.inline_pass.specs.Inlined.{inlined}
use Rattle.inline_finish.specs.Building.{policy_of}
use Rattle.module_pass.proofs.passing.gather.Given as goal

abbrev pub invariant-loop-i : goal.invariant-loop-i
invariant-loop-i l = record {
  long : length l.places.items ≡ length l.«module»;
  left : (j : ℕ) → l.i ≤ j → slice_get l.places.items j ≡ slice_get l.fn.built.items j;
  made : SameUpToNumbering (map (finished (policy_of l.fn.policy) l.«module») (take l.i l.«module»)) l.passed;
  by_function : l.inlined_by_function.items
      ≡ map (inlined (policy_of l.fn.policy) l.«module») (take l.i l.«module»);
  inlined : l.inlined ≡ sum (map (inlined (policy_of l.fn.policy) l.«module») (take l.i l.«module»));
  bound : l.inlined ≤ 18446744073709551615 * l.i;
}
