use Rattle.std.proofs.Common.{arith}
use Rattle.ir_check.specs.Faults.{first_rules, tried}
use Rattle.ir_check.proofs.Searching.{whole_rest, function_bad, function_good, functions_done}
use Rattle.ir_check.proofs.early.find_early_fault.Goals as goal

pub loop-i-init : goal.loop-i-init
loop-i-init c = whole_rest c.args.«module».now (tried first_rules 0 c.args.«module».now)

pub returns-in-Some : goal.returns-in-Some
returns-in-Some c = function_bad c.args.«module».now first_rules c.loop-i.i c.func.result.now.function c.func.ensures.at c.in-Some.fault c.in-Some.ensures c.loop-i.invariant

pub loop-i-preserved : goal.loop-i-preserved
loop-i-preserved c = function_good c.args.«module».now first_rules c.loop-i.i c.func.result.now.function c.func.ensures.at c.find_fault_in_func.result c.in_default.is c.find_fault_in_func.ensures c.loop-i.invariant

pub returns : goal.returns
returns c = functions_done c.args.«module».now first_rules c.loop-i.i (let n = c.len-i-end.ensures.count in omega arith) c.loop-i.invariant
