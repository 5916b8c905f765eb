use Rattle.std.proofs.Common.{◌≡◌, length}
use Rattle.call_graph.specs.Waiting.{Keeps, unplaced}
use Rattle.call_graph.specs.Tables.{table}
use Rattle.call_graph.proofs.turns.ordered.Given as goal

abbrev pub invariant-turns : goal.invariant-turns
invariant-turns l = Keeps l.graph l.piece (table l.placing)

abbrev pub decreases-turns : goal.decreases-turns
decreases-turns l = unplaced l.piece l.placing.list.items

abbrev pub invariant-woken : goal.invariant-woken
invariant-woken l = record {
  keeps : Keeps l.graph l.piece (table l.placing);
  list : l.placing.list.items ≡ l.initial.placing.list.items;
}

abbrev pub decreases-woken : goal.decreases-woken
decreases-woken l = length l.placing.woken
