use Rattle.std.proofs.Common.{◌≡◌, ◌+◌, take}
use Rattle.ir_core.specs.Size.{line_size, total}
use Rattle.ir_core.specs.Viewed.{line_of}
use Rattle.splice_size.specs.Counts.{line_counts, plus, summed}
use Rattle.splice_size.proofs.counts.add_lines.Given as goal

abbrev pub invariant-loop-added : goal.invariant-loop-added
invariant-loop-added l =
    record {
      left : l.left + total (λ x. line_size (line_of x)) (take l.added-index l.lines) ≡ l.fn.limit;
      added : l.counts ≡ plus l.fn.counts (summed (λ x. line_counts (line_of x)) (take l.added-index l.lines));
    }
