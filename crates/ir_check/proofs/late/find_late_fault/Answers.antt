use Rattle.std.proofs.Common.{arith, subst}
use Rattle.ir_check.specs.Faults.{last_rules, tried, tried_at, items}
use Rattle.ir_check.specs.Found.{Finds}
use Rattle.ir_check.proofs.Searching.{whole_rest, function_bad, function_good, functions_done}
use Rattle.ir_check.proofs.late.find_late_fault.Goals as goal

pub loop-i-init : goal.loop-i-init
loop-i-init c = whole_rest c.args.«module».now (tried last_rules 0 c.args.«module».now)

pub returns-in-Some : goal.returns-in-Some
returns-in-Some c =
    function_bad c.args.«module».now last_rules c.loop-i.i c.func.result.now.function c.func.ensures.at c.in-Some.fault
    (subst (λ o. Finds c.args.«module».now c.func.result.now.function (tried_at last_rules c.loop-i.i c.func.result.now.function (items c.func.result.now.function)) o) c.in-Some.is (c.in_ok-found.ensures c.args.«module».now)) c.loop-i.invariant

pub loop-i-preserved : goal.loop-i-preserved
loop-i-preserved c = function_good c.args.«module».now last_rules c.loop-i.i c.func.result.now.function c.func.ensures.at c.in_ok-found.found c.in_default.is (c.in_ok-found.ensures c.args.«module».now) c.loop-i.invariant

pub returns : goal.returns
returns c = functions_done c.args.«module».now last_rules c.loop-i.i (let n = c.len-i-end.ensures.count in omega arith) c.loop-i.invariant
