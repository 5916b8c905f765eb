use Rattle.std.proofs.Common.{sym, subst, arith}
use Rattle.inline_pass.specs.Going.{finishing}
use Rattle.inline_finish.specs.Building.{policy_of}
use Rattle.inline_finish.specs.Midway.{IsBetween, behind_block}
use Rattle.inline_finish.proofs.Blocks.{next}
use Rattle.inline_finish.proofs.lines.finish_blocks.Goals as goal

pub finish_block-requires-clause-there : goal.finish_block-requires-clause-there
finish_block-requires-clause-there g c =
    (next c.args.own.now.function.blocks c.loop-block.invariant.rest c.loop-block.block-iterator c.in-Some.block c.next.new.self c.blocks-block-items.ensures.sound.blocks_differ c.loop-block.invariant.remaining c.in-Some.ensures.steps).there

pub finish_block-requires-clause-between : goal.finish_block-requires-clause-between
finish_block-requires-clause-between g c =
    let n = next c.args.own.now.function.blocks c.loop-block.invariant.rest c.loop-block.block-iterator c.in-Some.block c.next.new.self c.blocks-block-items.ensures.sound.blocks_differ c.loop-block.invariant.remaining c.in-Some.ensures.steps in
    subst (λ bs. IsBetween (finishing (policy_of c.args.policy) (g.B.Bodies.functions c.args.bodies.now) c.args.own.now.function) bs c.loop-block.progress) (sym n.from) c.loop-block.invariant.between

pub loop-block-preserved : goal.loop-block-preserved
loop-block-preserved g c =
    let n = next c.args.own.now.function.blocks c.loop-block.invariant.rest c.loop-block.block-iterator c.in-Some.block c.next.new.self c.blocks-block-items.ensures.sound.blocks_differ c.loop-block.invariant.remaining c.in-Some.ensures.steps in
    let before = c.loop-block.invariant.counted in
    let step = c.in_ok-finish_block.ensures.counted in
    let low = c.loop-block.invariant.rises in
    let high = c.finish_block.ensures.rises in
    record {
      rest = behind_block c.in-Some.block c.args.own.now.function.blocks;
      remaining = n.remaining;
      between = c.in_ok-finish_block.ensures.between;
      counted = omega (arith, before, step);
      rises = omega (arith, low, high);
    }
