use Rattle.std.proofs.Common.{arith}
use Rattle.ir_check.specs.Faults.{first_rules}
use Rattle.ir_check.proofs.Searching.{here_range, here_fits, here_bad, here_good, lines_begin, lines_done}
use Rattle.ir_check.proofs.early.find_fault_in_lines.Goals as goal

pub loop-i-init : goal.loop-i-init
loop-i-init c = lines_begin c.args.func.now.function c.args.block first_rules c.args.number

pub overflow_cast-index : goal.overflow_cast-index
overflow_cast-index c = let fits = here_fits c.args.func.now.function c.requires.sound c.args.block c.requires.there c.inst_slice-insts.result.now c.inst_slice-insts.ensures c.loop-i.i c.index-insts-i.result c.loop-i-test.true c.index-insts-i.is in omega arith

pub find_line_fault-requires-clause-line : goal.find_line_fault-requires-clause-line
find_line_fault-requires-clause-line c = here_range c.args.func.now.function c.requires.sound c.args.block c.requires.there c.inst_slice-insts.result.now c.inst_slice-insts.ensures c.loop-i.i c.index-insts-i.result c.loop-i-test.true c.index-insts-i.is

pub returns-in-Some : goal.returns-in-Some
returns-in-Some c = here_bad c.args.func.now.function c.requires.sound c.args.block c.requires.there c.inst_slice-insts.result.now c.inst_slice-insts.ensures c.loop-i.i c.index-insts-i.result c.loop-i-test.true c.index-insts-i.is c.args.number c.args.first c.requires.first c.in-Some.kind c.in-Some.ensures c.loop-i.invariant

pub loop-i-preserved : goal.loop-i-preserved
loop-i-preserved c = here_good c.args.func.now.function c.requires.sound c.args.block c.requires.there c.inst_slice-insts.result.now c.inst_slice-insts.ensures c.loop-i.i c.index-insts-i.result c.loop-i-test.true c.index-insts-i.is c.args.number c.args.first c.requires.first c.find_line_fault.result c.in_default.is c.find_line_fault.ensures c.loop-i.invariant

pub returns : goal.returns
returns c = lines_done c.args.func.now.function c.args.block c.inst_slice-insts.result.now c.inst_slice-insts.ensures c.loop-i.i c.loop-i-test.false first_rules c.args.number c.loop-i.invariant
