use Rattle.std.proofs.Common.{◌≡◌, ℕ, ◌+◌, List, map, length, get_or, ap, ap₂, sym, subst, ◌∙◌, arith}
use Rattle.std.proofs.lemmas.List.{length-map, length-set}
use Rattle.ir_core.specs.Lookup.{block_numbers}
use Rattle.ir_core.specs.Lists.{In, Each, Below}
use Rattle.ir_core.proofs.Sizing.{each_in}
use Rattle.ir_core.specs.Edits.{block_at}
use Rattle.inline_body.specs.Results.{with_values}
use Rattle.inline_body.proofs.Found.{all_at}
use Rattle.inline_body.proofs.ResultTypes.{values_at}
use Rattle.inline_ends.specs.Tried.{plain_calls, plain_calls_in, numbered_with_calls}
use Rattle.inline_ends.proofs.TriedShape.{calls_length, next_written}
use Rattle.inline_ends.proofs.try_numbers.number_try_blocks.Goals as goal

pub written-init : goal.written-init
written-init c =
    let bs = c.args.callee.now.function.blocks in
    let sound = c.blocks-block-items.ensures.sound in
    let it = c.into_iter-block-iterator.result in
    let numbers : it ≡ block_numbers bs = c.into_iter-block-iterator.ensures.into_iter_gives ∙ c.blocks-block-items.ensures.numbers in
    let blocks : map (block_at bs) it ≡ bs = ap (map (block_at bs)) numbers ∙ all_at bs sound.blocks_differ in
    let long : length it ≡ length bs = ap length numbers ∙ length-map bs (λ b. b.number) in
    let count = ap plain_calls_in blocks in
    record {
      left = ap₂ (λ p q. with_values c.in_ok-table.table.items p (numbered_with_calls c.args.first q)) numbers blocks;
      long = omega (arith, c.in_ok-table.ensures.len, c.in_ok-table.table.ok.0, c.block_count.ensures);
      below = subst (Below (length bs)) (sym numbers) sound.block_range;
      there = subst (Each (λ n. In n (block_numbers bs))) (sym numbers) (each_in (block_numbers bs) (block_numbers bs) (λ n i. i));
      small = omega (arith, count, long);
    }

pub written-preserved : goal.written-preserved
written-preserved c =
    let bs = c.args.callee.now.function.blocks in
    let k = c.in-Some.block in
    let rest = c.next.new.self in
    let steps = c.in-Some.ensures.steps in
    let tails = c.count_plain_calls.ensures ∙ ap plain_calls c.inst_slice.ensures in
    let long = length-set c.written.table.items c.number.result c.new-in-written.result in
    let was = c.written.invariant.long in
    let small = c.written.invariant.small in
    let fewer = ap length steps in
    let parts = ap (λ (z : List ℕ). plain_calls_in (map (block_at bs) z)) steps in
    record {
      left = next_written c.written.table.items c.written.block-iterator k c.number.result c.written.number c.new-in-written.result c.count_plain_calls.result (c.written.number + (c.count_plain_calls.result + 1)) rest bs (with_values c.in_ok-table.table.items (block_numbers bs) (numbered_with_calls c.args.first bs)) steps c.number.ensures c.new-in-written.ensures tails (omega arith) c.written.invariant.left;
      long = omega (arith, long, was);
      below = (subst (Below (length bs)) steps c.written.invariant.below).1;
      there = (subst (Each (λ n. In n (block_numbers bs))) steps c.written.invariant.there).1;
      small = omega (arith, small, parts, tails, fewer);
    }

pub returns-clause-numbers : goal.returns-clause-numbers
returns-clause-numbers c =
    let bs = c.args.callee.now.function.blocks in
    let ks = block_numbers bs in
    let vs = numbered_with_calls c.args.first bs in
    let sound = c.blocks-block-items.ensures.sound in
    let long : length c.in_ok-table.table.items ≡ length bs = omega (arith, c.in_ok-table.ensures.len, c.in_ok-table.table.ok.0, c.block_count.ensures) in
    let is : c.written.table.items ≡ with_values c.in_ok-table.table.items ks vs = ap (λ (z : List ℕ). with_values c.written.table.items z (numbered_with_calls c.written.number (map (block_at bs) z))) (sym c.in-None.ensures.steps.0) ∙ c.written.invariant.left in
    ap (λ (z : List ℕ). map (λ b. get_or z b 0) ks) (c.from_vec.ensures ∙ is) ∙ values_at c.in_ok-table.table.items ks vs (length-map bs (λ b. b.number) ∙ sym (calls_length c.args.first bs)) sound.blocks_differ (subst (λ (n : ℕ). Below n ks) (sym long) sound.block_range)
