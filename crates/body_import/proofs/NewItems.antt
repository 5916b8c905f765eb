-- What a merged list has behind the first one.
use Rattle.std.proofs.Common.{◌≡◌, List, [], ◌∷◌, ◌++◌, Bool, true, false, refl, sym, ap, subst, ◌∙◌, append_assoc, append-nil}
use Rattle.std.proofs.lemmas.List.{append_cancel_left}
use Rattle.ir_core.specs.Lists.{Each}
use Rattle.ir_semantics.specs.Import.{with_items}
use Rattle.body_import.specs.Merged.{is_new}
use Rattle.body_import.proofs.Lists.{old_stays, new_goes, longer}

-- what each item of the second list has, each new one has
pub each_new : {A : Type 0} (P : A → Type 0) (same : A → A → Bool) (ys xs added : List A) → Each P xs → with_items same ys xs ≡ ys ++ added → Each P added
each_new P same ys [] added h e = subst (Each P) (append_cancel_left ys [] added (append-nil ys ∙ e)) tt
each_new {A = A} P same ys (x ∷ xs) added h e = go (is_new same ys x) refl (λ zs more g. each_new P same zs xs more h.1 g)
  where
    go : (b : Bool) → is_new same ys x ≡ b → ((zs more : List A) → with_items same zs xs ≡ zs ++ more → Each P more) → Each P added
    go true n ih =
        let put = ys ++ (x ∷ []) in
        let r = longer same put xs in
        let is : x ∷ r.more ≡ added = append_cancel_left ys (x ∷ r.more) added (sym (append_assoc ys (x ∷ []) r.more) ∙ (sym r.is ∙ (ap (λ z. with_items same z xs) (sym (new_goes same x ys n)) ∙ e))) in
        subst (Each P) is (h.0, ih put r.more r.is)
    go false n ih = ih ys added (ap (λ z. with_items same z xs) (sym (old_stays same x ys n)) ∙ e)
