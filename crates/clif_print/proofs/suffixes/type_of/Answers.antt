use Rattle.std.proofs.Common.{◌+◌, ◌≤◌, List, ℕ, length, map, ap, sym, ◌∙◌, arith}
use Rattle.std.proofs.lemmas.List.{length-map}
use Rattle.ir_core.specs.declared.signatures.Ty.{Ty}
use Rattle.ir_core.specs.Lookup.{type_in}
use Rattle.clif_print.proofs.Types.{past_types}
use Rattle.clif_print.proofs.suffixes.type_of.Goals as goal

pub returns-else-number-values : goal.returns-else-number-values
returns-else-number-values c =
    let types : List (ℕ × Ty) = c.args.func.now.function.types in
    let past : 0 + length (map (λ (x : ℕ × Ty). x.1) types) ≤ c.args.value = omega (arith, length-map types (λ (x : ℕ × Ty). x.1), c.values.ensures.count, c.if-number-values.false, c.number.ensures) in
    sym (ap (λ (l : List (ℕ × Ty)). type_in l c.args.value) c.values.ensures.sound.numbered ∙ past_types 0 c.args.value (map (λ (x : ℕ × Ty). x.1) types) past)
