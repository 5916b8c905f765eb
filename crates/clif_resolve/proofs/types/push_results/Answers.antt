use Rattle.std.proofs.Common.{◌∷◌, [], ◌++◌, List, ap, sym, ◌∙◌, append_assoc, take}
use Rattle.ir_core.specs.declared.signatures.Ty.{Ty}
use Rattle.clif_resolve.specs.FormTypes.{listed}
use Rattle.clif_meaning.specs.Meaning.{types_for}
use Rattle.clif_resolve.proofs.TypesAlong.{types_more}
use Rattle.clif_resolve.proofs.types.push_results.Goals as goal

pub loop-place-preserved : goal.loop-place-preserved
loop-place-preserved c =
    c.in_ok-push.ensures.items ∙ ap (λ (xs : List Ty). xs ++ c.at.result ∷ []) c.loop-place.invariant
    ∙ append_assoc c.args.types.now.items (types_for (take c.loop-place.place c.args.results.now) (listed c.args.func.now.function c.args.form.now)) (c.at.result ∷ [])
    ∙ ap (λ (t : Ty). c.args.types.now.items ++ (types_for (take c.loop-place.place c.args.results.now) (listed c.args.func.now.function c.args.form.now) ++ t ∷ [])) c.at.ensures
    ∙ ap (λ (xs : List Ty). c.args.types.now.items ++ xs) (sym (types_more c.args.results.now (listed c.args.func.now.function c.args.form.now) c.loop-place.place c.loop-place-test.true))
