use Rattle.std.proofs.Common.{sym, ap, ap₂, ◌∙◌}
use Rattle.ir_core.specs.Lookup.{block_numbers}
use Rattle.ir_core.specs.Layout.{walk, nexts, order}
use Rattle.ir_core.proofs.Laying.{names_blocks}
use Rattle.ir_core.proofs.func.Func.blocks.Goals as goal

pub returns-clause-numbers : goal.returns-clause-numbers
returns-clause-numbers c =
    ap₂ (λ l n. walk (nexts l) n c.self.inside.first) c.as_slice.ensures.value (c.len.ensures ∙ c.self.inside.blocks.ok.0)
    ∙ (sym (names_blocks c.self.inside.insts.items c.self.inside.blocks.items (order c.self.inside.blocks.items c.self.inside.first))
    ∙ ap (λ z. block_numbers z.function.blocks) c.self.view_is)
