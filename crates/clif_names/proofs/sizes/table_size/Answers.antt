use Rattle.std.proofs.Common.{arith, ◌+◌, length, take, ap}
use Rattle.clif_names.specs.Sizes as spec
use Rattle.ir_core.proofs.Sizing.{total_more, total_map}
use Rattle.clif_names.proofs.sizes.table_size.Goals as goal

pub loop-entry-preserved : goal.loop-entry-preserved
loop-entry-preserved c =
    omega (
      arith,
      c.saturating_add-size.ensures,
      c.loop-entry.invariant,
      ap length c.as_slice.ensures,
      ap (λ e. spec.target_size e.target) c.entry-item.is,
      total_more (λ e. spec.target_size e.target) c.args.table.now c.loop-entry.entry-index c.entry-item.result c.loop-entry-test.true,
      total_map spec.target_size (λ e. e.target) (take c.loop-entry.entry-index c.args.table.now),
      total_map spec.target_size (λ e. e.target) (take (c.loop-entry.entry-index + 1) c.args.table.now),
    )
