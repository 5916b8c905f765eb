use Rattle.std.proofs.Common.{arith, ap}
use Rattle.clif_names.specs.Sizes as spec
use Rattle.ir_core.proofs.Sizing.{total_more}
use Rattle.clif_names.proofs.sizes.decls_size.Goals as goal

pub loop-decl-preserved : goal.loop-decl-preserved
loop-decl-preserved c =
    omega (arith, c.saturating_add-size.ensures, c.loop-decl.invariant, c.decl_size.ensures, ap spec.decl_size c.decl-item.is, total_more spec.decl_size c.args.decls.now c.loop-decl.decl-index c.decl-item.result c.loop-decl-test.true)
