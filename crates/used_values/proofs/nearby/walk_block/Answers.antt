use Rattle.std.proofs.Common.{sym, ◌∙◌}
use Rattle.ir_core.specs.Edits.{lines_of}
use Rattle.ir_core.specs.Viewed.{line_of}
use Rattle.avail_flow.proofs.Edging.{line_at}
use Rattle.used_values.proofs.Passing.{counted_params, counted_results, uses_available, lines_none, lines_more, lines_all}
use Rattle.used_values.proofs.nearby.walk_block.Goals as goal

pub loop-added-init : goal.loop-added-init
loop-added-init c = record {
  counted = counted_params c.args.func.now.function c.args.block c.args.start c.count_on-end.result c.params.result.now c.params.ensures c.count_on-end.ensures;
  uses = lines_none c.args.func.now.function c.args.block;
}

pub loop-added-preserved : goal.loop-added-preserved
loop-added-preserved c =
    let at = line_at c.inst_slice-added-items.result.now (lines_of c.args.block c.args.func.now.function.blocks) c.loop-added.added-index c.added-item.result c.inst_slice-added-items.ensures c.loop-added-test.true c.added-item.is in
    record {
      counted = counted_results c.args.func.now.function c.args.block c.loop-added.added-index c.args.start c.loop-added.end c.count_on-end-in-loop-added.result (line_of c.added-item.result) c.as_slice.result.now at c.as_slice.ensures c.count_on-end-in-loop-added.ensures c.loop-added.invariant.counted;
      uses = lines_more c.args.func.now.function c.args.block c.loop-added.added-index (line_of c.added-item.result) at
          (uses_available c.args.func.now.function c.args.block c.loop-added.added-index (record { early = c.args.early; start = c.args.start; end = c.loop-added.end }) (λ v low. c.requires.early v c.loop-added.added-index low) c.loop-added.invariant.counted (line_of c.added-item.result)
          (sym c.knows_uses.ensures ∙ c.if-not-knows_uses.false))
          c.loop-added.invariant.uses;
    }

pub returns : goal.returns
returns c = lines_all c.args.func.now.function c.args.block c.loop-added.added-index c.inst_slice-added-items.result.now c.inst_slice-added-items.ensures c.loop-added-test.false c.loop-added.invariant.uses
