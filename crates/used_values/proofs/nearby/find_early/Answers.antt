use Rattle.std.proofs.Common.{arith, sym, ◌∙◌}
use Rattle.ir_core.specs.Edits.{lines_of}
use Rattle.ir_core.specs.Viewed.{line_of}
use Rattle.avail_flow.proofs.Edging.{line_at}
use Rattle.used_values.proofs.Passing.{counted_params, counted_results, counted_passed, goes_more}
use Rattle.used_values.proofs.nearby.find_early.Goals as goal

pub loop-added-init : goal.loop-added-init
loop-added-init c = record {
  counted = counted_params c.args.func.now.function c.args.block c.args.start c.count_on-end.result c.params.result.now c.params.ensures c.count_on-end.ensures;
  goes = λ j l low got. absurd (omega arith);
}

pub returns-then-ends_block : goal.returns-then-ends_block
returns-then-ends_block c = counted_passed c.args.func.now.function c.args.block c.loop-added.added-index c.args.start c.loop-added.end c.loop-added.invariant.goes c.loop-added.invariant.counted

pub loop-added-preserved : goal.loop-added-preserved
loop-added-preserved c =
    let at = line_at c.inst_slice-added-items.result.now (lines_of c.args.block c.args.func.now.function.blocks) c.loop-added.added-index c.added-item.result c.inst_slice-added-items.ensures c.loop-added-test.true c.added-item.is in
    record {
      counted = counted_results c.args.func.now.function c.args.block c.loop-added.added-index c.args.start c.loop-added.end c.count_on-end-in-loop-added.result (line_of c.added-item.result) c.as_slice.result.now at c.as_slice.ensures c.count_on-end-in-loop-added.ensures c.loop-added.invariant.counted;
      goes = goes_more c.args.func.now.function c.args.block c.loop-added.added-index (line_of c.added-item.result) at (sym c.ends_block.ensures ∙ c.if-ends_block.false) c.loop-added.invariant.goes;
    }

pub returns : goal.returns
returns c = counted_passed c.args.func.now.function c.args.block c.loop-added.added-index c.args.start c.loop-added.end c.loop-added.invariant.goes c.loop-added.invariant.counted
