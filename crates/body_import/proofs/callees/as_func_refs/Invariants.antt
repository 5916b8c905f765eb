use Rattle.std.proofs.Common.{◌≡◌, ◌++◌, drop}
use Rattle.body_import.proofs.callees.as_func_refs.Given as goal

abbrev pub invariant-loop-place : goal.invariant-loop-place
invariant-loop-place l = l.list.items ++ drop l.place-index l.places ≡ l.places
