use Rattle.body_import.proofs.Planned.{compared}
use Rattle.body_import.proofs.declarations.plan_directly.Goals as goal

pub returns : goal.returns
returns c =
    compared c.args.caller.now.function c.args.callee.now.function (record { sigs = c.in_ok-sigs.sigs; callees = c.in_ok-callees.callees }) c.sigs.result.now c.sigs-3.result.now c.sigs-2.result.now c.as_slice.result.now c.callees.result.now c.callees-2.result.now c.as_slice-2.result.now
    c.values.ensures.sound.callees c.values-2.ensures.sound.callees c.sigs.ensures c.sigs-3.ensures c.sigs-2.ensures c.as_slice.ensures c.callees.ensures c.callees-2.ensures c.as_slice-2.ensures c.in_ok-sigs.ensures c.in_ok-callees.ensures
