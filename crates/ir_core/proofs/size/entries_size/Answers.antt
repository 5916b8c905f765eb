use Rattle.std.proofs.Common.{arith, length, ap}
use Rattle.ir_core.specs.Size.{argument_count}
use Rattle.ir_core.proofs.Sizing.{total_more}
use Rattle.ir_core.proofs.size.entries_size.Goals as goal

pub loop-target-preserved : goal.loop-target-preserved
loop-target-preserved c =
    omega (arith, c.saturating_add-size.ensures, c.loop-target.invariant, ap length c.as_slice.ensures, ap argument_count c.target-item.is, total_more argument_count c.args.entries.now c.loop-target.target-index c.target-item.result c.loop-target-test.true)
