use Rattle.std.proofs.Common.{arith, ap}
use Rattle.clif_names.specs.Sizes as spec
use Rattle.ir_core.proofs.Sizing.{total_more}
use Rattle.clif_names.proofs.sizes.lines_size.Goals as goal

pub loop-line-preserved : goal.loop-line-preserved
loop-line-preserved c =
    omega (arith, c.saturating_add-size.ensures, c.loop-line.invariant, c.line_size.ensures, ap spec.line_size c.line-item.is, total_more spec.line_size c.args.lines.now c.loop-line.line-index c.line-item.result c.loop-line-test.true)
