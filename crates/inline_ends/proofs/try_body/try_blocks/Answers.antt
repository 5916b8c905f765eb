use Rattle.std.proofs.Common.{◌≡◌, ◌++◌, map, length, sym, ap, ap₂, subst, ◌∙◌}
use Rattle.ir_core.specs.Lookup.{block_numbers}
use Rattle.ir_core.specs.Lists.{In, Each}
use Rattle.ir_core.proofs.Sizing.{each_in}
use Rattle.ir_core.specs.Edits.{block_at}
use Rattle.inline_body.specs.Inlined.{blocks_from}
use Rattle.inline_body.proofs.Found.{all_at}
use Rattle.inline_ends.specs.Tried.{tried_blocks}
use Rattle.inline_ends.specs.TriedParts.{CanTry}
use Rattle.inline_ends.proofs.try_body.try_blocks.Goals as goal

pub loop-block-init : goal.loop-block-init
loop-block-init c =
    let bs = c.args.callee.now.function.blocks in
    let numbers : c.into_iter-block-iterator.result ≡ block_numbers bs = c.into_iter-block-iterator.ensures.into_iter_gives ∙ c.blocks-block-items.ensures.numbers in
    let blocks : map (block_at bs) c.into_iter-block-iterator.result ≡ bs = ap (map (block_at bs)) numbers ∙ all_at bs c.blocks-block-items.ensures.sound.blocks_differ in
    record {
      left = ap₂ (λ p q. blocks_from p q ++ tried_blocks c.args.names.now c.args.site.now (map (block_at bs) c.into_iter-block-iterator.result)) c.in_ok-with_capacity.ensures.items c.in_ok-with_capacity-2.ensures.items ∙ ap (tried_blocks c.args.names.now c.args.site.now) blocks;
      as_many = ap length c.in_ok-with_capacity.ensures.items ∙ sym (ap length c.in_ok-with_capacity-2.ensures.items);
      there = subst (Each (λ n. In n (block_numbers bs))) (sym numbers) (each_in (block_numbers bs) (block_numbers bs) (λ n i. i));
      can = subst (Each (CanTry c.args.names.now)) (sym blocks) c.requires.can;
    }
