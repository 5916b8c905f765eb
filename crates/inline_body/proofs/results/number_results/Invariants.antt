use Rattle.std.proofs.Common.{◌≡◌, ◌+◌, ◌*◌, map, length}
use Rattle.ir_core.specs.Lists.{In, Each, Below}
use Rattle.ir_core.specs.Lookup.{block_numbers}
use Rattle.ir_core.specs.Edits.{block_at}
use Rattle.inline_body.specs.Results.{tail_calls_in, starts_along, with_values}
use Rattle.inline_body.proofs.results.number_results.Given as goal

abbrev pub invariant-written : goal.invariant-written
invariant-written l =
    record {
      left : with_values l.table.items l.block-iterator (starts_along l.number l.count (map (block_at l.fn.callee.function.blocks) l.block-iterator)) ≡ with_values l.initial.table.items (block_numbers l.fn.callee.function.blocks) (starts_along l.first l.count l.fn.callee.function.blocks);
      long : length l.table.items ≡ length l.fn.callee.function.blocks;
      below : Below (length l.fn.callee.function.blocks) l.block-iterator;
      there : Each (λ k. In k (block_numbers l.fn.callee.function.blocks)) l.block-iterator;
      small : l.number + l.count * tail_calls_in (map (block_at l.fn.callee.function.blocks) l.block-iterator) ≡ l.first + l.count * tail_calls_in l.fn.callee.function.blocks;
      counted : l.tails + tail_calls_in (map (block_at l.fn.callee.function.blocks) l.block-iterator) ≡ tail_calls_in l.fn.callee.function.blocks;
    }
