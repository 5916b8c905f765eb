use Rattle.std.proofs.Common.{◌≡◌, ◌+◌, ◌*◌, ◌≤◌, length}
use Rattle.ir_core.specs.Lists.{Below}
use Rattle.ir_core.specs.Lookup.{block_numbers}
use Rattle.inline_body.specs.Dense.{numbers_along}
use Rattle.inline_body.specs.Results.{with_values}
use Rattle.inline_body.proofs.tables.number_blocks.Given as goal

abbrev pub invariant-written : goal.invariant-written
invariant-written l =
    record {
      left : with_values l.table.items l.block-iterator (numbers_along l.first l.number l.block-iterator)
          ≡ with_values l.initial.table.items (block_numbers l.fn.callee.function.blocks)
          (numbers_along l.first l.first (block_numbers l.fn.callee.function.blocks));
      long : length l.table.items ≡ length l.fn.callee.function.blocks;
      below : Below (length l.fn.callee.function.blocks) l.block-iterator;
      small : l.number + 2 * length l.block-iterator ≤ l.first + 2 * length l.fn.callee.function.blocks;
    }
