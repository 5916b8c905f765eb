use Rattle.std.proofs.Common.{◌≡◌, map, length}
use Rattle.ir_core.specs.Viewed.{line_of}
use Rattle.call_graph.specs.Calls.{each_once}
use Rattle.call_graph.specs.Marks.{Marked, targets_in}
use Rattle.call_graph.proofs.making.add_calls.Given as goal

abbrev pub invariant-lines : goal.invariant-lines
invariant-lines l = record {
  left : each_once l.calls.items (targets_in l.numbers (map line_of l.rest)) ≡ each_once l.initial.calls.items (targets_in l.numbers (map line_of l.lines));
  marked : Marked l.stamp l.seen.items l.calls.items;
  long : length l.seen.items ≡ length l.initial.seen.items;
}

abbrev pub decreases-lines : goal.decreases-lines
decreases-lines l = length l.rest
