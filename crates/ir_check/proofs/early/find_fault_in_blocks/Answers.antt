use Rattle.std.proofs.Common.{◌∙◌}
use Rattle.ir_check.specs.Faults.{first_rules}
use Rattle.ir_check.proofs.Searching.{blocks_begin, blocks_there, blocks_done, first_there, others_there, blocks_bad, blocks_good}
use Rattle.ir_check.proofs.early.find_fault_in_blocks.Goals as goal

pub loop-block-init : goal.loop-block-init
loop-block-init c = record {
  left = blocks_begin c.args.func.now.function c.blocks-block-items.ensures.sound first_rules c.args.number c.into_iter-block-iterator.result (c.into_iter-block-iterator.ensures.into_iter_gives ∙ c.blocks-block-items.ensures.numbers);
  there = blocks_there c.args.func.now.function c.blocks-block-items.ensures.sound first_rules c.args.number c.into_iter-block-iterator.result (c.into_iter-block-iterator.ensures.into_iter_gives ∙ c.blocks-block-items.ensures.numbers);
}

pub find_fault_in_block-requires-clause-there : goal.find_fault_in_block-requires-clause-there
find_fault_in_block-requires-clause-there c = first_there c.args.func.now.function c.blocks-block-items.ensures.sound first_rules c.args.number c.loop-block.block-iterator c.in-Some.block c.next.new.self c.in-Some.ensures.steps c.loop-block.invariant.there

pub returns-in-Some-find_fault_in_block : goal.returns-in-Some-find_fault_in_block
returns-in-Some-find_fault_in_block c = blocks_bad c.args.func.now.function c.blocks-block-items.ensures.sound first_rules c.args.number c.loop-block.block-iterator c.in-Some.block c.next.new.self c.in-Some.ensures.steps c.loop-block.invariant.left c.in-Some-find_fault_in_block.fault c.in-Some-find_fault_in_block.ensures

pub loop-block-preserved : goal.loop-block-preserved
loop-block-preserved c = record {
  left = blocks_good c.args.func.now.function c.blocks-block-items.ensures.sound first_rules c.args.number c.loop-block.block-iterator c.in-Some.block c.next.new.self c.in-Some.ensures.steps c.loop-block.invariant.left c.find_fault_in_block.result c.in_default.is c.find_fault_in_block.ensures;
  there = others_there c.args.func.now.function c.blocks-block-items.ensures.sound first_rules c.args.number c.loop-block.block-iterator c.in-Some.block c.next.new.self c.in-Some.ensures.steps c.loop-block.invariant.there;
}

pub returns : goal.returns
returns c = blocks_done c.args.func.now.function c.blocks-block-items.ensures.sound first_rules c.args.number c.loop-block.block-iterator c.in-None.ensures.steps.0 c.loop-block.invariant.left
