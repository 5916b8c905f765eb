use Rattle.std.proofs.Common.{◌≡◌, ◌≤◌, ◌++◌, ℕ, length, vec_capacity}
use Rattle.ir_core.specs.Lists.{In}
use Rattle.ir_core.specs.Lookup.{block_numbers, definitions}
use Rattle.ir_core.specs.Edits.{blocks_at}
use Rattle.clif_numbers.proofs.numbers.definitions.Given as goal

abbrev pub invariant-loop-block : goal.invariant-loop-block
invariant-loop-block l = record {
  left : l.order.items ++ definitions (blocks_at l.func.function.blocks l.block-iterator) ≡ definitions l.func.function.blocks;
  there : (n : ℕ) → In n l.block-iterator → In n (block_numbers l.func.function.blocks);
  room : length (definitions l.func.function.blocks) ≤ vec_capacity l.order;
  kept : vec_capacity l.fn.empty ≤ vec_capacity l.order;
}
