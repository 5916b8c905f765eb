use Rattle.std.proofs.Common.{length, sym, ap, ◌∙◌}
use Rattle.std.proofs.lemmas.List.{length-map}
use Rattle.ir_core.specs.Layout.{block_at, order}
use Rattle.ir_core.proofs.func.Func.block_count.Goals as goal

pub returns : goal.returns
returns c = let s = c.self.inside in
    c.len.ensures ∙ (s.blocks.ok.0 ∙ (sym c.self.invariant.laid.full ∙ (sym (length-map (order s.blocks.items s.first) (block_at s.insts.items s.blocks.items)) ∙ ap (λ z. length z.function.blocks) c.self.view_is)))
