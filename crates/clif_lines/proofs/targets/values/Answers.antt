use Rattle.std.proofs.Common.{ℕ, ◌∷◌, [], sym, ap, ap₂, ◌∙◌}
use Rattle.token_reader.specs.declared.raw.RawName.{RawName}
use Rattle.clif_meaning.specs.Instructions.{value_at}
use Rattle.clif_lines.specs.WordRenaming.{renaming}
use Rattle.clif_lines.proofs.Parting.{map_one, map_two}
use Rattle.clif_lines.proofs.targets.values.Goals as goal

abbrev no_name : RawName
no_name = record { number = 0; spot = 0 }

pub returns-in-len1 : goal.returns-in-len1
returns-in-len1 c =
    c.one.ensures ∙ ap (λ (v : ℕ). v ∷ []) c.value.ensures
    ∙ sym (map_one (value_at (renaming c.args.words.now)) c.args.names.now no_name c.in-len1.len_at_least c.in-len1.len_below)

pub returns-in-len2 : goal.returns-in-len2
returns-in-len2 c =
    c.two.ensures ∙ ap₂ (λ (v w : ℕ). v ∷ w ∷ []) c.value-in-len2.ensures c.value-in-len2-2.ensures
    ∙ sym (map_two (value_at (renaming c.args.words.now)) c.args.names.now no_name c.in-len2.len_at_least c.in-len2.len_below)
