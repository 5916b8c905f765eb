use Rattle.std.proofs.Common.{◌≡◌, ◌+◌, ◌≤◌, ◌++◌, length, map, vec_capacity, vec_len}
use Rattle.ir_core.specs.Lookup.{line_definitions}
use Rattle.ir_core.specs.Viewed.{line_of}
use Rattle.clif_numbers.proofs.numbers.append_results.Given as goal

abbrev pub invariant-lines : goal.invariant-lines
invariant-lines l = record {
  items : l.order.items ++ line_definitions (map line_of l.rest) ≡ l.initial.order.items ++ line_definitions (map line_of l.lines);
  capacity : vec_capacity l.order ≡ vec_capacity l.initial.order;
  room : vec_len l.order + length (line_definitions (map line_of l.rest)) ≤ vec_capacity l.order;
}

abbrev pub decreases-lines : goal.decreases-lines
decreases-lines l = length l.rest
