use Rattle.std.proofs.Common.{length, take, ap, arith}
use Rattle.ir_core.specs.Module.{Function}
use Rattle.clif_lines.proofs.Parting.{got_some, parted_long}
use Rattle.clif_meaning.proofs.Lists.{numbered_long}
use Rattle.clif_resolve.specs.Filling.{empty_block}
use Rattle.clif_resolve.proofs.DeclaredLaws.{block_added}
use Rattle.clif_resolve.proofs.functions.add_each_block.Goals as goal

pub loop-block-init : goal.loop-block-init
loop-block-init c = ap (λ bs. record c.args.func.now.function { blocks = bs }) c.requires.none

pub add_block-requires : goal.add_block-requires
add_block-requires c =
    let p = got_some c.args.blocks.now c.loop-block._block-index c.loop-block-test.true in
    let a = parted_long c.args.blocks.now c.loop-block._block-index p.0 p.1 in
    let e = ap (λ (f : Function). length f.blocks) c.loop-block.invariant in
    let l = numbered_long empty_block 0 (take c.loop-block._block-index c.args.blocks.now) in
    let t = c.loop-block-test.true in
    let f = c.requires.few in
    omega (arith, a, e, l, t, f)

pub loop-block-preserved : goal.loop-block-preserved
loop-block-preserved c =
    let p = got_some c.args.blocks.now c.loop-block._block-index c.loop-block-test.true in
    block_added c.args.func.now.function _ _ c.args.blocks.now c.loop-block._block-index p.0 p.1 _ c.loop-block.invariant c.in_ok-add_block.ensures.number c.in_ok-add_block.ensures.ok
