use Rattle.std.proofs.Common.{◌≡◌, ◌+◌, length}
use Rattle.call_graph.specs.Marks.{Fresh}
use Rattle.graph_workers.specs.Ranges.{AreCalls}
use Rattle.graph_workers.proofs.ranges.find_range_calls.Given as goal

abbrev pub invariant-loop-i : goal.invariant-loop-i
invariant-loop-i l = record {
  are : AreCalls l.«module» l.from l.i l.calls.items;
  fresh : Fresh (l.i + 1) l.seen.items;
  long : length l.seen.items ≡ length l.«module»;
}
