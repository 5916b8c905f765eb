use Rattle.std.proofs.Common.{length, sym, ap, ◌∙◌}
use Rattle.ir_core.proofs.Keeping.{length_numbered}
use Rattle.ir_core.proofs.func.Func.values.Goals as goal

pub returns-clause-count : goal.returns-clause-count
returns-clause-count c = c.len.ensures ∙ (c.self.inside.types.ok.0 ∙ (sym (length_numbered 0 c.self.inside.types.items) ∙ ap (λ z. length z.function.types) c.self.view_is))
