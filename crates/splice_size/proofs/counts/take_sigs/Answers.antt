use Rattle.std.proofs.Common.{◌-◌, arith, take, ap}
use Rattle.ir_core.specs.Size.{sig_size, total}
use Rattle.ir_core.proofs.Sizing.{total_more}
use Rattle.splice_size.proofs.Budgets.{refused, total_part}
use Rattle.splice_size.proofs.counts.take_sigs.Goals as goal

pub returns-in_err-left : goal.returns-in_err-left
returns-in_err-left c =
    let ss = c.args.sigs.now in
    let part = total_part sig_size ss c.loop-sig.sig-index c.sig-item.result c.loop-sig-test.true in
    refused c.from_residual.result (c.args.left - total sig_size ss) c.args.left c.loop-sig.left (total sig_size (take c.loop-sig.sig-index ss)) (sig_size c.sig-item.result) (total sig_size ss)
    c.from_residual.ensures c.loop-sig.invariant c.in_err-left.ensures (omega (arith, ap sig_size c.sig-item.is, part))

pub loop-sig-preserved : goal.loop-sig-preserved
loop-sig-preserved c =
    omega (arith, c.in_ok-left.ensures, c.loop-sig.invariant, ap sig_size c.sig-item.is, total_more sig_size c.args.sigs.now c.loop-sig.sig-index c.sig-item.result c.loop-sig-test.true)
