use Rattle.std.proofs.Common.{rules, ◌≡◌, get_or, sym, ap, ◌∙◌}
use Rattle.std.specs.Prelude.{unwrap_or}
use Rattle.std.proofs.lemmas.Option.{unwrap_or-slice_get}
use Rattle.clif_names.specs.FunctionNames.{end_place}
use Rattle.clif_names.proofs.function.FunctionNames.value.Goals as goal
use Rattle.clif_names.proofs.function.FunctionNames.value.Goals.{in-At, in-Nowhere}

pub returns-in-None : goal.returns-in-None
returns-in-None c =
    let names = c.args.self.now in
    let words = names.uses.values.words in
    let place : c.match-end.place ≡ end_place words c.end.result = elim c.match-end.branch [
      | in-At w ↦ w.place-is ∙ sym (ap (end_place words) w.in-At.is)
      | in-Nowhere w ↦ search rules
    ] in
    sym (ap (λ k. get_or names.values_before k 0) (ap (end_place words) (sym c.end.ensures) ∙ sym place)
    ∙ sym (unwrap_or-slice_get names.values_before c.match-end.place 0)
    ∙ ap (λ o. unwrap_or o 0) (sym c.get.ensures ∙ c.in-None.is))
