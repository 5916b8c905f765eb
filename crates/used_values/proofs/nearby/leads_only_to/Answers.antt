use Rattle.std.proofs.Common.{sym, ◌∙◌}
use Rattle.ir_core.specs.Edits.{lines_of}
use Rattle.ir_core.specs.Viewed.{line_of}
use Rattle.avail_flow.proofs.Edging.{line_at}
use Rattle.used_values.proofs.Passing.{leads_none, leads_more, leads_done}
use Rattle.used_values.proofs.nearby.leads_only_to.Goals as goal

pub loop-added-init : goal.loop-added-init
loop-added-init c = leads_none c.args.func.now.function c.args.from c.args.to

pub loop-added-preserved : goal.loop-added-preserved
loop-added-preserved c =
    let at = line_at c.inst_slice-added-items.result.now (lines_of c.args.from c.args.func.now.function.blocks) c.loop-added.added-index c.added-item.result c.inst_slice-added-items.ensures c.loop-added-test.true c.added-item.is in
    leads_more c.args.func.now.function c.args.from c.args.to c.loop-added.added-index (line_of c.added-item.result) at (sym c.leads_to_block.ensures ∙ c.if-not-leads_to_block.false) c.loop-added.invariant

pub returns : goal.returns
returns c = λ yes. leads_done c.args.func.now.function c.args.from c.args.to c.loop-added.added-index c.inst_slice-added-items.result.now c.inst_slice-added-items.ensures c.loop-added-test.false c.loop-added.invariant
