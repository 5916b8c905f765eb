use Rattle.std.proofs.Common.{◌≡◌, ◌≢◌, ℕ, ◌<◌, Some, slice_get}
use Rattle.ir_core.specs.Module.{Function}
use Rattle.program_run.specs.EntryName.{spelling}
use Rattle.program_run.proofs.entries.find_entry.Given as goal

abbrev pub invariant-loop-i : goal.invariant-loop-i
invariant-loop-i l = (j : ℕ) (f : Function) → j < l.i → slice_get l.module j ≡ Some f → spelling f.name ≢ l.text
