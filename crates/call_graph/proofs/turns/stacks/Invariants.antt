use Rattle.std.proofs.Common.{◌≡◌, [], replicate}
use Rattle.call_graph.proofs.turns.stacks.Given as goal

abbrev pub invariant-loop-i : goal.invariant-loop-i
invariant-loop-i l = l.stacks.items ≡ replicate l._i []
