use Rattle.std.proofs.Common.{◌≡◌, map, take}
use Rattle.call_graph.specs.Calls.{number_of}
use Rattle.call_graph.proofs.making.callee_numbers.Given as goal

abbrev pub invariant-loop-callee : goal.invariant-loop-callee
invariant-loop-callee l = l.numbers.items ≡ map (λ c. number_of l.module c.name) (take l.callee-index l.callees)
