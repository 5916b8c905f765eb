use Rattle.std.proofs.Common.{ℕ, sym, ap, ◌∙◌}
use Rattle.std.specs.Prelude.{slice_get}
use Rattle.clif_lines.specs.WordRenaming.{renaming}
use Rattle.clif_meaning.specs.Instructions.{known}
use Rattle.clif_resolve.proofs.TypesAlong.{type_given}
use Rattle.clif_resolve.proofs.types.inst_type.Goals as goal

pub returns-in-Some-gives_type : goal.returns-in-Some-gives_type
returns-in-Some-gives_type c =
    c.type_at.ensures ∙ ap (λ (v : ℕ). known (slice_get c.args.types.now v)) c.value.ensures
    ∙ type_given (renaming c.args.words.now) c.args.types.now c.args.inst.now c.in-Some-gives_type.name c.in-None.is (sym c.gives_type.ensures ∙ c.in-Some-gives_type.is)
