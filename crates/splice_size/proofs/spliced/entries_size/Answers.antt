use Rattle.std.proofs.Common.{arith, ◌+◌, length, take, ap}
use Rattle.ir_core.specs.Size.{argument_count}
use Rattle.ir_core.proofs.Sizing.{total_more, total_targets}
use Rattle.splice_size.proofs.spliced.entries_size.Goals as goal

pub loop-entry-preserved : goal.loop-entry-preserved
loop-entry-preserved c =
    omega (
      arith,
      c.saturating_add-size.ensures,
      c.loop-entry.invariant,
      ap length c.as_slice.ensures,
      ap (λ e. argument_count e.target) c.entry-item.is,
      total_more (λ e. argument_count e.target) c.args.entries.now c.loop-entry.entry-index c.entry-item.result c.loop-entry-test.true,
      total_targets (take c.loop-entry.entry-index c.args.entries.now),
      total_targets (take (c.loop-entry.entry-index + 1) c.args.entries.now),
    )
