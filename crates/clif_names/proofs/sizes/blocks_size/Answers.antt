use Rattle.std.proofs.Common.{arith, ap}
use Rattle.clif_names.specs.Sizes as spec
use Rattle.ir_core.proofs.Sizing.{total_more}
use Rattle.clif_names.proofs.sizes.blocks_size.Goals as goal

pub loop-block-preserved : goal.loop-block-preserved
loop-block-preserved c =
    omega (arith, c.saturating_add-size.ensures, c.loop-block.invariant, c.block_size.ensures, ap spec.block_size c.block-item.is, total_more spec.block_size c.args.blocks.now c.loop-block.block-index c.block-item.result c.loop-block-test.true)
