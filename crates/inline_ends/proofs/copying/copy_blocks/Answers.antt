use Rattle.std.proofs.Common.{◌≡◌, List, ◌++◌, map, length, sym, ap, ap₂, subst, ◌∙◌}
use Rattle.ir_core.specs.Module.{Block}
use Rattle.ir_core.specs.Lookup.{block_numbers}
use Rattle.ir_core.specs.Lists.{In, Each}
use Rattle.ir_core.specs.Viewed.{line_of}
use Rattle.ir_core.proofs.Sizing.{each_in}
use Rattle.ir_core.specs.Edits.{block_at}
use Rattle.inline_body.specs.Named.{names_of}
use Rattle.inline_body.specs.Inlined.{blocks_from}
use Rattle.inline_ends.specs.Copied.{copied_block, CanCopy}
use Rattle.inline_body.proofs.Found.{all_at, block_is, more_blocks}
use Rattle.inline_body.proofs.Pushed.{longer}
use Rattle.inline_ends.proofs.copying.copy_blocks.Goals as goal

pub loop-block-init : goal.loop-block-init
loop-block-init c =
    let bs = c.args.callee.now.function.blocks in
    let numbers : c.into_iter-block-iterator.result ≡ block_numbers bs = c.into_iter-block-iterator.ensures.into_iter_gives ∙ c.blocks-block-items.ensures.numbers in
    let blocks : map (block_at bs) c.into_iter-block-iterator.result ≡ bs = ap (map (block_at bs)) numbers ∙ all_at bs c.blocks-block-items.ensures.sound.blocks_differ in
    let f = copied_block c.args.names.now c.args.outer.now in
    record {
      left = ap₂ (λ p q. blocks_from p q ++ map f (map (block_at bs) c.into_iter-block-iterator.result)) c.in_ok-block_params.ensures.items c.in_ok-block_lines.ensures.items ∙ ap (map f) blocks;
      as_many = ap length c.in_ok-block_params.ensures.items ∙ sym (ap length c.in_ok-block_lines.ensures.items);
      there = subst (Each (λ n. In n (block_numbers bs))) (sym numbers) (each_in (block_numbers bs) (block_numbers bs) (λ n i. i));
      reached = subst (Each (CanCopy c.args.names.now)) (sym blocks) c.requires;
    }

pub loop-block-preserved : goal.loop-block-preserved
loop-block-preserved c =
    let bs = c.args.callee.now.function.blocks in
    let f = copied_block c.args.names.now c.args.outer.now in
    let e = ap (map (block_at bs)) c.in-Some.ensures.steps in
    record {
      left =
          more_blocks f (map f bs) c.loop-block.block_params.items c.push.new.self.items c.loop-block.block_lines.items c.push-in-loop-block.new.self.items c.in_ok-renumber_values.field-0 c.in_ok-copy_block.field-0 (block_at bs c.in-Some.block) (map (block_at bs) c.next.new.self) c.loop-block.invariant.as_many c.in_ok-push.ensures.items c.in_ok-push-2.ensures.items
          (block_is c.in_ok-copy_block.field-0.block (f (block_at bs c.in-Some.block)).number c.in_ok-renumber_values.field-0 (f (block_at bs c.in-Some.block)).params (map line_of c.in_ok-copy_block.field-0.lines) (f (block_at bs c.in-Some.block)).lines c.in_ok-copy_block.ensures.block (c.in_ok-renumber_values.ensures ∙ ap (map (names_of c.args.names.now).value) c.params.ensures) c.in_ok-copy_block.ensures.lines)
          (subst (λ (z : List Block). blocks_from c.loop-block.block_params.items c.loop-block.block_lines.items ++ map f z ≡ map f bs) e c.loop-block.invariant.left);
      as_many = longer c.loop-block.block_params.items c.push.new.self.items c.loop-block.block_lines.items c.push-in-loop-block.new.self.items c.in_ok-renumber_values.field-0 c.in_ok-copy_block.field-0 c.in_ok-push.ensures.items c.in_ok-push-2.ensures.items c.loop-block.invariant.as_many;
      there = (subst (Each (λ n. In n (block_numbers bs))) c.in-Some.ensures.steps c.loop-block.invariant.there).1;
      reached = (subst (Each (CanCopy c.args.names.now)) e c.loop-block.invariant.reached).1;
    }
