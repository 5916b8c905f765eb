use Rattle.std.proofs.Common.{◌+◌, length, ap, sym, ◌∙◌}
use Rattle.name_tables.proofs.ValueRuns.{counts_length}
use Rattle.name_tables.proofs.aliases.Counts.len.Goals as goal

pub returns : goal.returns
returns c = ap (λ k. c.self.inside.run + k) (c.len.ensures ∙ c.self.inside.listed.ok.0) ∙ sym (counts_length c.self.inside.run c.self.inside.listed.items) ∙ ap length c.self.view_is
