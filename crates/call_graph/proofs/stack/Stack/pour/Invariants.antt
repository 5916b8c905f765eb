use Rattle.std.proofs.Common.{◌≡◌, ◌++◌, length}
use Rattle.call_graph.proofs.stack.Stack.pour.Given as goal

abbrev pub invariant-items : goal.invariant-items
invariant-items l = l.list.items ++ l.self ≡ l.initial.list.items ++ l.initial.self

abbrev pub decreases-items : goal.decreases-items
decreases-items l = length l.self
