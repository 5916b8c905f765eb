use Rattle.std.proofs.Common.{◌≡◌, ℕ, List, sym, subst, ap, ◌∙◌, arith}
use Rattle.ir_core.specs.Lists.{In, Each}
use Rattle.ir_core.specs.Lookup.{block_numbers}
use Rattle.ir_core.specs.Size.{block_size, size_at, total}
use Rattle.ir_core.proofs.Sizing.{each_in}
use Rattle.splice_size.specs.Counts.{block_counts, counts_at, plus, sum_size, summed, IsSmall}
use Rattle.splice_size.proofs.Budgets.{refused}
use Rattle.splice_size.proofs.Counting.{all_size, at_size, at_small, counts_by_number, none_plus, part_of_all, plus_assoc, plus_none, plus_size, plus_small}
use Rattle.splice_size.proofs.counts.count_blocks.Goals as goal

pub loop-block-init : goal.loop-block-init
loop-block-init c =
    let bs = c.args.callee.now.function.blocks in
    let numbers : c.into_iter-block-iterator.result ≡ block_numbers bs = c.into_iter-block-iterator.ensures.into_iter_gives ∙ c.blocks-block-items.ensures.numbers in
    record {
      left = ap (λ z. plus z (summed (counts_at bs) c.into_iter-block-iterator.result)) c.none-counts.ensures ∙ (none_plus (summed (counts_at bs) c.into_iter-block-iterator.result) ∙ ap (summed (counts_at bs)) numbers);
      spent = omega (arith, ap sum_size c.none-counts.ensures);
      small = subst IsSmall (sym c.none-counts.ensures) (omega arith);
      there = subst (Each (λ n. In n (block_numbers bs))) (sym numbers) (each_in (block_numbers bs) (block_numbers bs) (λ n i. i));
    }

pub add_block-requires-clause-there : goal.add_block-requires-clause-there
add_block-requires-clause-there c = (subst (Each (λ n. In n (block_numbers c.args.callee.now.function.blocks))) c.in-Some.ensures.steps c.loop-block.invariant.there).0

pub add_block-requires-clause-small : goal.add_block-requires-clause-small
add_block-requires-clause-small c = c.loop-block.invariant.small

pub add_block-requires-clause-few : goal.add_block-requires-clause-few
add_block-requires-clause-few c = omega (arith, c.loop-block.invariant.spent)

pub returns-in_err-left : goal.returns-in_err-left
returns-in_err-left c =
    let bs = c.args.callee.now.function.blocks in
    refused c.from_residual.result (summed block_counts bs) c.args.limit c.loop-block.left (sum_size c.loop-block.counts) (size_at bs c.in-Some.block) (total block_size bs) c.from_residual.ensures c.loop-block.invariant.spent c.in_err-left.ensures.left
    (part_of_all bs c.blocks-block-items.ensures.sound.blocks_differ c.loop-block.counts c.loop-block.block-iterator c.next.new.self c.in-Some.block c.loop-block.invariant.left c.in-Some.ensures.steps)

pub loop-block-preserved : goal.loop-block-preserved
loop-block-preserved c =
    let bs = c.args.callee.now.function.blocks in
    let next = c.next.new.self in
    let one = counts_at bs c.in-Some.block in
    record {
      left =
          ap (λ z. plus z (summed (counts_at bs) next)) c.in_ok-left.ensures.added
          ∙ (plus_assoc c.loop-block.counts one (summed (counts_at bs) next)
          ∙ (ap (λ (z : List ℕ). plus c.loop-block.counts (summed (counts_at bs) z)) (sym c.in-Some.ensures.steps) ∙ c.loop-block.invariant.left));
      spent =
          omega (arith, c.loop-block.invariant.spent, ap sum_size c.in_ok-left.ensures.added, plus_size c.loop-block.counts one, at_size bs c.in-Some.block, c.in_ok-left.ensures.left.0, c.in_ok-left.ensures.left.1);
      small = subst IsSmall (sym c.in_ok-left.ensures.added) (plus_small c.loop-block.counts one c.loop-block.invariant.small (at_small bs c.in-Some.block));
      there = (subst (Each (λ n. In n (block_numbers bs))) c.in-Some.ensures.steps c.loop-block.invariant.there).1;
    }

pub returns : goal.returns
returns c =
    let bs = c.args.callee.now.function.blocks in
    let d = c.blocks-block-items.ensures.sound.blocks_differ in
    let all : c.loop-block.counts ≡ summed (counts_at bs) (block_numbers bs) =
    sym (plus_none c.loop-block.counts) ∙ (ap (λ (z : List ℕ). plus c.loop-block.counts (summed (counts_at bs) z)) (sym c.in-None.ensures.steps.0) ∙ c.loop-block.invariant.left) in
    (omega (arith, c.loop-block.invariant.spent, ap sum_size all, all_size bs d), all ∙ counts_by_number bs d)
