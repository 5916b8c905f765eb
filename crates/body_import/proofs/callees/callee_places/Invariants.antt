use Rattle.std.proofs.Common.{◌≡◌, take, map, get_or}
use Rattle.body_import.specs.Keys.{Knows}
use Rattle.body_import.specs.CalleeKeys.{callee_key}
use Rattle.body_import.proofs.callees.callee_places.Given as goal

abbrev pub invariant-loop-callee : goal.invariant-loop-callee
invariant-loop-callee l = Knows 0 (map (λ c. callee_key (get_or l.first c.sig 0) c) (take l.callee-index l.callees)) l.places × (l.place ≡ l.callee-index)
