use Rattle.std.proofs.Common.{List, ℕ, Some, sym, subst}
use Rattle.used_values.proofs.Passing.{BlocksLeft, blocks_begun, blocks_more, blocks_done}
use Rattle.used_values.proofs.nearby.shows_available.Goals as goal

pub loop-block-init : goal.loop-block-init
loop-block-init c =
    subst (λ (z : List ℕ). BlocksLeft c.args.func.now.function (record { last = Some c.in-Some.first; early = c.find_early.result }) z) (sym c.into_iter-block-iterator.ensures.into_iter_gives)
    (blocks_begun c.args.func.now.function c.blocks-blocks.ensures.sound.blocks_differ c.blocks-blocks.result c.blocks-blocks.ensures.numbers c.in-Some.first c.next.new.self c.in-Some.ensures.steps c.in-Some-walk_block.ensures c.find_early.result c.find_early.ensures)

pub loop-block-preserved : goal.loop-block-preserved
loop-block-preserved c =
    blocks_more c.args.func.now.function c.loop-block.chain c.loop-block.block-iterator c.in-Some-block.block c.next-in-loop-block.new.self c.in-Some-block.ensures.steps c.loop-block.invariant c.in-Some-walk_block-2.ensures c.follow-chain.result c.follow-chain.ensures.chain c.follow-chain.ensures.last

pub returns : goal.returns
returns c = λ yes. blocks_done c.args.func.now.function c.loop-block.chain c.loop-block.block-iterator c.in-None.ensures.steps.0 c.loop-block.invariant
