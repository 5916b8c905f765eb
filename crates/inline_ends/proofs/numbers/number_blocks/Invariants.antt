use Rattle.std.proofs.Common.{◌≡◌, ◌+◌, length}
use Rattle.ir_core.specs.Lists.{Below}
use Rattle.ir_core.specs.Lookup.{block_numbers}
use Rattle.inline_body.specs.Results.{with_values}
use Rattle.inline_ends.specs.Ending.{numbered}
use Rattle.inline_ends.proofs.numbers.number_blocks.Given as goal

abbrev pub invariant-written : goal.invariant-written
invariant-written l =
    record {
      left : with_values l.table.items l.block-iterator (numbered l.number l.block-iterator)
          ≡ with_values l.initial.table.items (block_numbers l.fn.callee.function.blocks)
          (numbered l.first (block_numbers l.fn.callee.function.blocks));
      long : length l.table.items ≡ length l.fn.callee.function.blocks;
      below : Below (length l.fn.callee.function.blocks) l.block-iterator;
      small : l.number + length l.block-iterator ≡ l.first + length l.fn.callee.function.blocks;
    }
