use Rattle.std.proofs.Common.{arith}
use Rattle.ir_check.specs.Faults.{first_rules, tried_at, callee_items}
use Rattle.ir_check.proofs.Searching.{whole_rest, callee_range, callee_fits, callee_bad, callee_good, callees_done}
use Rattle.ir_check.proofs.early.find_fault_in_callees.Goals as goal

pub loop-i-init : goal.loop-i-init
loop-i-init c = whole_rest c.args.«module».now (tried_at first_rules c.args.number c.args.func.now.function (callee_items 0 c.args.func.now.function.callees))

pub overflow_cast-index : goal.overflow_cast-index
overflow_cast-index c = let fits = callee_fits c.args.«module».now c.args.func.now.function c.requires.sound c.args.number c.callees-declared.result.now c.callees-declared.ensures c.loop-i.i c.index-declared-i.result c.loop-i-test.true c.index-declared-i.is in omega arith

pub find_callee_fault-requires-clause-there : goal.find_callee_fault-requires-clause-there
find_callee_fault-requires-clause-there c = callee_range c.args.«module».now c.args.func.now.function c.requires.sound c.args.number c.callees-declared.result.now c.callees-declared.ensures c.loop-i.i c.index-declared-i.result c.loop-i-test.true c.index-declared-i.is

pub returns-in-Some : goal.returns-in-Some
returns-in-Some c = callee_bad c.args.«module».now c.args.func.now.function c.requires.sound c.args.number c.callees-declared.result.now c.callees-declared.ensures c.loop-i.i c.index-declared-i.result c.loop-i-test.true c.index-declared-i.is c.in-Some.kind c.in-Some.ensures c.loop-i.invariant

pub loop-i-preserved : goal.loop-i-preserved
loop-i-preserved c = callee_good c.args.«module».now c.args.func.now.function c.requires.sound c.args.number c.callees-declared.result.now c.callees-declared.ensures c.loop-i.i c.index-declared-i.result c.loop-i-test.true c.index-declared-i.is c.find_callee_fault.result c.in_default.is c.find_callee_fault.ensures c.loop-i.invariant

pub returns : goal.returns
returns c = callees_done c.args.«module».now c.args.func.now.function c.requires.sound c.args.number c.callees-declared.result.now c.callees-declared.ensures c.loop-i.i c.loop-i-test.false c.loop-i.invariant
