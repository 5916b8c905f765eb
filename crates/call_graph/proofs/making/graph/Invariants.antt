use Rattle.std.proofs.Common.{◌≡◌, ◌++◌, ◌+◌, map, drop, length}
use Rattle.call_graph.specs.Calls.{calls_in, graph_of}
use Rattle.call_graph.specs.Marks.{Fresh}
use Rattle.call_graph.proofs.making.graph.Given as goal

abbrev pub invariant-loop-i : goal.invariant-loop-i
invariant-loop-i l = record {
  left : l.calls.items ++ map (calls_in l.module) (drop l.i l.module) ≡ graph_of l.module;
  fresh : Fresh (l.i + 1) l.seen.items;
  long : length l.seen.items ≡ length l.module;
}
