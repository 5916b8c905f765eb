use Rattle.std.proofs.Common.{◌≡◌, ◌+◌, map, length}
use Rattle.ir_core.specs.Lists.{In, Each, Below}
use Rattle.ir_core.specs.Lookup.{block_numbers}
use Rattle.ir_core.specs.Edits.{block_at}
use Rattle.inline_body.specs.Results.{with_values}
use Rattle.inline_ends.specs.Tried.{plain_calls_in, numbered_with_calls}
use Rattle.inline_ends.proofs.try_numbers.number_try_blocks.Given as goal

abbrev pub invariant-written : goal.invariant-written
invariant-written l =
    record {
      left : with_values l.table.items l.block-iterator (numbered_with_calls l.number (map (block_at l.fn.callee.function.blocks) l.block-iterator)) ≡ with_values l.initial.table.items (block_numbers l.fn.callee.function.blocks) (numbered_with_calls l.first l.fn.callee.function.blocks);
      long : length l.table.items ≡ length l.fn.callee.function.blocks;
      below : Below (length l.fn.callee.function.blocks) l.block-iterator;
      there : Each (λ k. In k (block_numbers l.fn.callee.function.blocks)) l.block-iterator;
      small : l.number + length l.block-iterator + plain_calls_in (map (block_at l.fn.callee.function.blocks) l.block-iterator) ≡ l.first + length l.fn.callee.function.blocks + plain_calls_in l.fn.callee.function.blocks;
    }
