use Rattle.std.proofs.Common.{arith, length, ap}
use Rattle.clif_names.specs.Sizes as spec
use Rattle.ir_core.proofs.Sizing.{total_more}
use Rattle.clif_names.proofs.sizes.entries_size.Goals as goal

pub loop-target-preserved : goal.loop-target-preserved
loop-target-preserved c =
    omega (arith, c.saturating_add-size.ensures, c.loop-target.invariant, ap length c.as_slice.ensures, ap spec.target_size c.target-item.is, total_more spec.target_size c.args.entries.now c.loop-target.target-index c.target-item.result c.loop-target-test.true)
