use Rattle.std.proofs.Common.{Some, ◌∙◌}
use Rattle.ir_check.specs.Faults.{last_rules}
use Rattle.ir_check.proofs.Searching.{blocks_begin, blocks_there, blocks_done, first_there, others_there, blocks_bad, blocks_good, late_block}
use Rattle.ir_check.proofs.late.find_use_in_blocks.Goals as goal

pub loop-block-init : goal.loop-block-init
loop-block-init c = record {
  left = blocks_begin c.args.func.now.function c.blocks-block-items.ensures.sound last_rules c.args.number c.into_iter-block-iterator.result (c.into_iter-block-iterator.ensures.into_iter_gives ∙ c.blocks-block-items.ensures.numbers);
  there = blocks_there c.args.func.now.function c.blocks-block-items.ensures.sound last_rules c.args.number c.into_iter-block-iterator.result (c.into_iter-block-iterator.ensures.into_iter_gives ∙ c.blocks-block-items.ensures.numbers);
}

pub find_use_in_lines-requires-clause-there : goal.find_use_in_lines-requires-clause-there
find_use_in_lines-requires-clause-there c = first_there c.args.func.now.function c.blocks-block-items.ensures.sound last_rules c.args.number c.loop-block.block-iterator c.in-Some.block c.next.new.self c.in-Some.ensures.steps c.loop-block.invariant.there

pub returns-in-Some-find_use_in_lines : goal.returns-in-Some-find_use_in_lines
returns-in-Some-find_use_in_lines c = blocks_bad c.args.func.now.function c.blocks-block-items.ensures.sound last_rules c.args.number c.loop-block.block-iterator c.in-Some.block c.next.new.self c.in-Some.ensures.steps c.loop-block.invariant.left c.in-Some-find_use_in_lines.fault (λ m. late_block m c.args.number c.args.func.now.function c.in-Some.block (Some c.in-Some-find_use_in_lines.fault) (c.in-Some-find_use_in_lines.ensures m))

pub loop-block-preserved : goal.loop-block-preserved
loop-block-preserved c = record {
  left = blocks_good c.args.func.now.function c.blocks-block-items.ensures.sound last_rules c.args.number c.loop-block.block-iterator c.in-Some.block c.next.new.self c.in-Some.ensures.steps c.loop-block.invariant.left c.find_use_in_lines.result c.in_default.is (λ m. late_block m c.args.number c.args.func.now.function c.in-Some.block c.find_use_in_lines.result (c.find_use_in_lines.ensures m));
  there = others_there c.args.func.now.function c.blocks-block-items.ensures.sound last_rules c.args.number c.loop-block.block-iterator c.in-Some.block c.next.new.self c.in-Some.ensures.steps c.loop-block.invariant.there;
}

pub returns : goal.returns
returns c = blocks_done c.args.func.now.function c.blocks-block-items.ensures.sound last_rules c.args.number c.loop-block.block-iterator c.in-None.ensures.steps.0 c.loop-block.invariant.left
