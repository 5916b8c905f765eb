use Rattle.std.proofs.Common.{◌+◌, ◌-◌, arith, length, take, ap}
use Rattle.ir_core.specs.Size.{argument_count, total}
use Rattle.ir_core.proofs.Sizing.{total_more}
use Rattle.splice_size.proofs.Budgets.{refused, total_part}
use Rattle.splice_size.proofs.sizes.take_targets.Goals as goal

pub returns-in_err-left-2 : goal.returns-in_err-left-2
returns-in_err-left-2 c =
    let es = c.args.entries.now in
    let all = length es + total argument_count es in
    let part = total_part argument_count es c.loop-target.target-index c.target-item.result c.loop-target-test.true in
    refused c.from_residual-in_err-left-2.result (c.args.left - all) c.args.left c.loop-target.left (length es + total argument_count (take c.loop-target.target-index es)) (length c.as_slice.result.now) all
    c.from_residual-in_err-left-2.ensures c.loop-target.invariant c.in_err-left-2.ensures
    (omega (arith, ap length c.as_slice.ensures, ap argument_count c.target-item.is, part))

pub loop-target-preserved : goal.loop-target-preserved
loop-target-preserved c =
    omega (arith, c.in_ok-left-2.ensures, c.loop-target.invariant, ap length c.as_slice.ensures, ap argument_count c.target-item.is, total_more argument_count c.args.entries.now c.loop-target.target-index c.target-item.result c.loop-target-test.true)
