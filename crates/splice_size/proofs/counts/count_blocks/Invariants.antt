use Rattle.std.proofs.Common.{◌≡◌, ◌+◌}
use Rattle.ir_core.specs.Lists.{In, Each}
use Rattle.ir_core.specs.Lookup.{block_numbers}
use Rattle.splice_size.specs.Counts.{counts_at, plus, sum_size, summed, IsSmall}
use Rattle.splice_size.proofs.counts.count_blocks.Given as goal

abbrev pub invariant-loop-block : goal.invariant-loop-block
invariant-loop-block l =
    record {
      left : plus l.counts (summed (counts_at l.fn.callee.function.blocks) l.block-iterator) ≡ summed (counts_at l.fn.callee.function.blocks) (block_numbers l.fn.callee.function.blocks);
      spent : l.left + sum_size l.counts ≡ l.fn.limit;
      small : IsSmall l.counts;
      there : Each (λ k. In k (block_numbers l.fn.callee.function.blocks)) l.block-iterator;
    }
