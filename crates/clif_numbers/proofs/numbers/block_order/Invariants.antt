use Rattle.std.proofs.Common.{◌≡◌, ◌≤◌, ◌++◌, length, vec_capacity}
use Rattle.ir_core.specs.Lookup.{block_numbers}
use Rattle.clif_numbers.proofs.numbers.block_order.Given as goal

abbrev pub invariant-loop-block : goal.invariant-loop-block
invariant-loop-block l = record {
  items : l.order.items ++ l.block-iterator ≡ block_numbers l.func.function.blocks;
  room : length (block_numbers l.func.function.blocks) ≤ vec_capacity l.order;
  kept : vec_capacity l.fn.empty ≤ vec_capacity l.order;
}
