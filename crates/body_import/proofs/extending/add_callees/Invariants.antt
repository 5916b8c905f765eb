use Rattle.std.proofs.Common.{◌≡◌, ℕ, ◌+◌, List, ◌++◌, length, take, map}
use Rattle.body_import.specs.Keys.{Knows}
use Rattle.body_import.specs.CalleeKeys.{own_key}
use Rattle.body_import.proofs.extending.add_callees.Given as goal

abbrev pub invariant-loop-callee : goal.invariant-loop-callee
invariant-loop-callee l = ((keys : List (List ℕ)) → Knows 0 keys l.fn.places → l.count ≡ length keys → Knows 0 (keys ++ map own_key (take l.callee-index l.callees)) l.places) × (l.place ≡ l.count + l.callee-index)
