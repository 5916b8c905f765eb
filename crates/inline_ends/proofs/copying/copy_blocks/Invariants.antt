use Rattle.std.proofs.Common.{◌≡◌, ◌++◌, map, length}
use Rattle.ir_core.specs.Lookup.{block_numbers}
use Rattle.ir_core.specs.Lists.{In, Each}
use Rattle.ir_core.specs.Edits.{block_at}
use Rattle.inline_body.specs.Inlined.{blocks_from}
use Rattle.inline_ends.specs.Copied.{copied_block, CanCopy}
use Rattle.inline_ends.proofs.copying.copy_blocks.Given as goal

abbrev pub invariant-loop-block : goal.invariant-loop-block
invariant-loop-block l =
    record {
      left : blocks_from l.block_params.items l.block_lines.items ++ map (copied_block l.fn.names l.fn.outer) (map (block_at l.fn.callee.function.blocks) l.block-iterator) ≡ map (copied_block l.fn.names l.fn.outer) l.fn.callee.function.blocks;
      as_many : length l.block_params.items ≡ length l.block_lines.items;
      there : Each (λ k. In k (block_numbers l.fn.callee.function.blocks)) l.block-iterator;
      reached : Each (CanCopy l.fn.names) (map (block_at l.fn.callee.function.blocks) l.block-iterator);
    }
