use Rattle.std.proofs.Common.{ℕ, sym, ap, ◌∙◌}
use Rattle.ir_core.specs.Lookup.{type_in}
use Rattle.clif_lines.specs.WordRenaming.{renaming}
use Rattle.clif_meaning.specs.Instructions.{known}
use Rattle.clif_resolve.proofs.TypesAlong.{type_read}
use Rattle.clif_resolve.proofs.types.find_inst_type.Goals as goal

pub returns-in-Some-gives_type : goal.returns-in-Some-gives_type
returns-in-Some-gives_type c =
    let type = type_in c.args.func.now.function.types in
    c.find_type.ensures ∙ ap (λ (v : ℕ). known (type v)) c.value.ensures
    ∙ ap known (sym (type_read type (renaming c.args.words.now) c.args.inst.now c.in-Some-gives_type.name c.in-None.is (sym c.gives_type.ensures ∙ c.in-Some-gives_type.is)))
