use Rattle.std.proofs.Common.{length, ap}
use Rattle.body_import.proofs.Planned.{planned}
use Rattle.body_import.proofs.declarations.plan_by_keys.Goals as goal

pub returns : goal.returns
returns c =
    planned c.args.caller.now.function c.args.callee.now.function c.args.keyed.now (record { sigs = c.in_ok-sigs.sigs; callees = c.in_ok-callees.callees }) _ _ c.sigs-2.result.now c.callees-2.result.now c.as_slice.result.now c.requires.keyed c.values.ensures.sound.callees c.values-2.ensures.sound.callees (ap length c.sigs.ensures) (ap length c.callees.ensures) c.sigs-2.ensures c.callees-2.ensures c.as_slice.ensures c.in_ok-sigs.ensures.added c.in_ok-sigs.ensures.table c.in_ok-sigs.ensures.fewer c.in_ok-callees.ensures.added c.in_ok-callees.ensures.table c.in_ok-callees.ensures.fewer
