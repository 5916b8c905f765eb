use Rattle.std.proofs.Common.{arith}
use Rattle.ir_check.specs.Faults.{last_rules}
use Rattle.ir_check.proofs.Searching.{here_fits, here_block, here_inside, use_bad, use_good, lines_begin, lines_done}
use Rattle.ir_check.proofs.late.find_use_in_lines.Goals as goal

pub loop-i-init : goal.loop-i-init
loop-i-init c = lines_begin c.args.func.now.function c.args.block last_rules c.args.number

pub overflow_cast-index : goal.overflow_cast-index
overflow_cast-index c = let fits = here_fits c.args.func.now.function c.requires.sound c.args.block c.requires.there c.inst_slice-insts.result.now c.inst_slice-insts.ensures c.loop-i.i c.index-insts-i.result c.loop-i-test.true c.index-insts-i.is in omega arith

pub uses_available-requires-clause-block : goal.uses_available-requires-clause-block
uses_available-requires-clause-block c = here_block c.args.func.now.function c.requires.sound c.args.block c.requires.there c.inst_slice-insts.result.now c.inst_slice-insts.ensures c.loop-i.i c.index-insts-i.result c.loop-i-test.true c.index-insts-i.is c.args.avail.now c.requires.same

pub uses_available-requires-clause-inside : goal.uses_available-requires-clause-inside
uses_available-requires-clause-inside c = here_inside c.args.func.now.function c.requires.sound c.args.block c.requires.there c.inst_slice-insts.result.now c.inst_slice-insts.ensures c.loop-i.i c.index-insts-i.result c.loop-i-test.true c.index-insts-i.is c.args.avail.now c.requires.same

pub returns-then-not-uses_available : goal.returns-then-not-uses_available
returns-then-not-uses_available c = use_bad c.args.func.now.function c.requires.sound c.args.block c.requires.there c.inst_slice-insts.result.now c.inst_slice-insts.ensures c.loop-i.i c.index-insts-i.result c.loop-i-test.true c.index-insts-i.is c.args.avail.now c.requires.same c.uses_available.result c.uses_available.ensures c.if-not-uses_available.true c.args.number c.loop-i.invariant

pub loop-i-preserved : goal.loop-i-preserved
loop-i-preserved c = use_good c.args.func.now.function c.requires.sound c.args.block c.requires.there c.inst_slice-insts.result.now c.inst_slice-insts.ensures c.loop-i.i c.index-insts-i.result c.loop-i-test.true c.index-insts-i.is c.args.avail.now c.requires.same c.uses_available.result c.uses_available.ensures c.if-not-uses_available.false c.args.number c.loop-i.invariant

pub returns : goal.returns
returns c = lines_done c.args.func.now.function c.args.block c.inst_slice-insts.result.now c.inst_slice-insts.ensures c.loop-i.i c.loop-i-test.false last_rules c.args.number c.loop-i.invariant
