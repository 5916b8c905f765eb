use Rattle.std.proofs.Common.{ℕ, List, [], ◌∷◌, ◌++◌, take, sym, ap, ◌∙◌}
use Rattle.clif_meaning.specs.Instructions.{value_at, values_at}
use Rattle.clif_lines.specs.WordRenaming.{renaming}
use Rattle.clif_lines.proofs.Parting.{got_or, map_next}
use Rattle.clif_lines.proofs.targets.many_values.Goals as goal

pub loop-name-preserved : goal.loop-name-preserved
loop-name-preserved c =
    let at = renaming c.args.words.now in
    let names = c.args.names.now in
    let i = c.loop-name.name-index in
    c.in_ok-push.ensures.items ∙ ap (λ (xs : List ℕ). xs ++ c.value.result ∷ []) c.loop-name.invariant
    ∙ ap (λ (v : ℕ). values_at at (take i names) ++ v ∷ []) c.value.ensures
    ∙ sym (map_next (value_at at) names i _ (got_or names i (record { number = 0; spot = 0 }) c.loop-name-test.true))
