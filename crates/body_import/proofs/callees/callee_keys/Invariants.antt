use Rattle.std.proofs.Common.{◌≡◌, ◌++◌, drop, map, get_or}
use Rattle.body_import.specs.CalleeKeys.{callee_key}
use Rattle.body_import.proofs.callees.callee_keys.Given as goal

abbrev pub invariant-loop-callee : goal.invariant-loop-callee
invariant-loop-callee l = map (λ k. k.items) l.keys.items ++ map (λ c. callee_key (get_or l.table c.sig 0) c) (drop l.callee-index l.callees) ≡ map (λ c. callee_key (get_or l.table c.sig 0) c) l.callees
