use Rattle.std.proofs.Common.{◌≤◌, length}
use Rattle.call_graph.specs.Waiting.{Filled}
use Rattle.call_graph.proofs.turns.filled.Given as goal

abbrev pub invariant-functions : goal.invariant-functions
invariant-functions l = record {
  within : l.rest ≤ length l.piece;
  filled : Filled l.graph l.piece l.rest l.members.items l.callees.items l.woken;
}

abbrev pub decreases-functions : goal.decreases-functions
decreases-functions l = l.rest
