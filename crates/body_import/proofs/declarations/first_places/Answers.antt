use Rattle.std.proofs.Common.{[], ◌∷◌, ◌++◌, map, length, Some, ap, sym, ◌∙◌, arith, length-append}
use Rattle.std.proofs.lemmas.Option.{slice_get-get_or}
use Rattle.ir_core.specs.Signatures.{same_sig}
use Rattle.ir_semantics.specs.Import.{first_place}
use Rattle.body_import.proofs.Walks.{grown}
use Rattle.body_import.proofs.declarations.first_places.Goals as goal

pub loop-sig-preserved : goal.loop-sig-preserved
loop-sig-preserved c =
    let s = c.sig-item.result in
    let sigs = c.args.sigs.now in
    let i = c.loop-sig.sig-index in (
      λ knows. grown (first_place same_sig sigs) (map (first_place same_sig sigs) sigs) c.loop-sig.list.items c.push.new.self.items sigs i s c.loop-sig-test.true c.sig-item.is (c.in_ok-push.ensures.items ∙ ap (λ z. c.loop-sig.list.items ++ (z ∷ [])) (c.in_ok-place_of_sig.ensures sigs i knows (slice_get-get_or sigs i s c.loop-sig-test.true ∙ ap Some (sym c.sig-item.is)))) (c.loop-sig.invariant.0 knows),
      let n = ap length c.in_ok-push.ensures.items in let m = length-append c.loop-sig.list.items (c.in_ok-place_of_sig.field-0 ∷ []) in let q = c.loop-sig.invariant.1 in omega (arith, n, m, q),
    )
