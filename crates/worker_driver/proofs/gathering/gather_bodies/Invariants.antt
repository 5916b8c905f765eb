use Rattle.std.proofs.Common.{◌≡◌, ◌≢◌, ℕ, ◌<◌, ◌≤◌, length, map, take, Some}
use Rattle.std.specs.Prelude.{slice_get}
use Rattle.ir_semantics.specs.Canon.{SameUpToNumbering}
use Rattle.inline_pass.specs.Finished.{finished}
use Rattle.inline_pass.specs.Inlined.{inlined}
use Rattle.inline_finish.specs.Building.{policy_of}
use Rattle.publish_table.specs.declared.view.Cell.TheVariants.{Refused}
use Rattle.worker_driver.specs.Gathered.{functions_in, inlined_in}
use Rattle.worker_driver.proofs.gathering.gather_bodies.Given as goal

abbrev pub invariant-loop-i : goal.invariant-loop-i
invariant-loop-i l = record {
  long : length l.cells.items ≡ length l.«module»;
  left : (j t : ℕ) → l.i ≤ j → slice_get l.plan.tickets.items j ≡ Some t → slice_get l.cells.items t ≡ slice_get l.initial.cells.items t;
  filled : (j t : ℕ) → j < l.i → slice_get l.plan.tickets.items j ≡ Some t → slice_get l.initial.cells.items t ≢ Some Refused;
  same : SameUpToNumbering (map (finished (policy_of l.fn.policy) l.«module») (take l.i l.«module»)) (functions_in l.bodies.items);
  counted : map inlined_in l.bodies.items ≡ map (inlined (policy_of l.fn.policy) l.«module») (take l.i l.«module»);
}
