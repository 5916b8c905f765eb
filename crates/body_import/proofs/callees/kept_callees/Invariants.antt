use Rattle.std.proofs.Common.{◌≡◌, ◌++◌, drop, map}
use Rattle.body_import.specs.Merged.{keep}
use Rattle.body_import.specs.CalleeKeys.{renumbered}
use Rattle.body_import.proofs.callees.kept_callees.Given as goal

abbrev pub invariant-loop-callee : goal.invariant-loop-callee
invariant-loop-callee l = (l.list.items ++ keep (drop l.callee-index l.flags) (map (renumbered l.table) (drop l.callee-index l.callees)) ≡ keep l.flags (map (renumbered l.table) l.callees)) × (l.index ≡ l.callee-index)
