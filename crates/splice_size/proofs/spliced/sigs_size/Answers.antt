use Rattle.std.proofs.Common.{arith, ap}
use Rattle.ir_core.specs.Size.{sig_size}
use Rattle.ir_core.proofs.Sizing.{total_more}
use Rattle.splice_size.proofs.spliced.sigs_size.Goals as goal

pub loop-sig-preserved : goal.loop-sig-preserved
loop-sig-preserved c =
    omega (arith, c.saturating_add-size.ensures, c.loop-sig.invariant, c.signature_size.ensures, ap sig_size c.sig-item.is, total_more sig_size c.args.sigs.now c.loop-sig.sig-index c.sig-item.result c.loop-sig-test.true)
