-- Both ways to the places of words stay right.
use Rattle.std.proofs.Common.{◌≡◌, ℕ, zero, suc, ◌+◌, ◌<◌, ◌≢◌, false, cond, List, [], ◌∷◌, ◌++◌, length, get_or, set, get_or-set_same, get_or-set_other, add-one, Option, None, Some, refl, sym, ◌∙◌, inl, inr}
use Rattle.std.specs.Prelude.{nat_eq, position}
use Rattle.std.proofs.lemmas.Bool.{eq-eqb}
use Rattle.std.proofs.lemmas.Bool.Decides.{eqb_tells}
use Rattle.indexmap.specs.IndexMap.{get}
use Rattle.name_tables.specs.Dense.{SameAt, or_far, Far, far_place, LeadToPlaces}
use Rattle.name_tables.proofs.WordPlaces.{differ, at_end, position_new, position_more}

module _ (ws near : List ℕ) (far : ℕ → Option ℕ) (x : ℕ)
    (right : (n : ℕ) → or_far (get_or near n 0) (far n) ≡ position (nat_eq n) ws) (new : position (nat_eq x) ws ≡ None) where
  here : (n : ℕ) → n ≡ x → position (nat_eq n) (ws ++ x ∷ []) ≡ Some (length ws)
  here n e = rw e (position_new (nat_eq x) ws x (at_end (nat_eq x) ws new) (eq-eqb x x refl))

  near_put : (longer : List ℕ) → SameAt near longer → x < length longer → (farther : ℕ → Option ℕ) → ((n : ℕ) → nat_eq n x ≡ false → farther n ≡ far n) → (n : ℕ) → or_far (get_or (set longer x (length ws + 1)) n 0) (farther n) ≡ position (nat_eq n) (ws ++ x ∷ [])
  near_put longer same within farther kept n = elim (eqb_tells n x) [
    | inl t ↦ (rw (t.1, get_or-set_same longer x (length ws + 1) 0 within, add-one) refl) ∙ sym (here n t.1)
    | inr f ↦ (let ne : n ≢ x = f.1 in rw (get_or-set_other longer x n (length ws + 1) 0 ne, same n, kept n f.0) (right n)) ∙ sym (position_more (nat_eq n) ws x f.0)
  ]

  empty : (r : ℕ) → get_or near x 0 ≡ r → r ≡ 0
  empty zero e = refl
  empty (suc r) e = absurd (let k = rw e at (right x ∙ new) in cc)

  far_put : (farther : ℕ → Option ℕ) → ((q : ℕ) → farther q ≡ cond (nat_eq x q) (Some (length ws)) (far q)) → (n : ℕ) → or_far (get_or near n 0) (farther n) ≡ position (nat_eq n) (ws ++ x ∷ [])
  far_put farther is n = elim (eqb_tells x n) [
    | inl t ↦ rw (is n, t.0) (rw (← t.1, empty (get_or near x 0) refl) refl) ∙ sym (here n (sym t.1))
    | inr f ↦ rw (is n, f.0) (right n ∙ sym (position_more (nat_eq n) ws x (differ n x (λ e. f.1 (sym e)))))
  ]

  -- searched
  none_put : (n : ℕ) → n ≡ x → or_far (get_or near n 0) (position (nat_eq n) (ws ++ x ∷ [])) ≡ position (nat_eq n) (ws ++ x ∷ [])
  none_put n e = rw (e, empty (get_or near x 0) refl) refl

far_kept : (ws : List ℕ) (far : Option Far) (x n : ℕ) → nat_eq n x ≡ false → far_place (ws ++ x ∷ []) far n ≡ far_place ws far n
far_kept ws None x n other = position_more (nat_eq n) ws x other
far_kept ws (Some far) x n other = refl

module _ (ws near : List ℕ) (x : ℕ) (new : position (nat_eq x) ws ≡ None) where
  pub near_written : (far : Option Far) → LeadToPlaces ws near far → (longer : List ℕ) → SameAt near longer → x < length longer → LeadToPlaces (ws ++ x ∷ []) (set longer x (length ws + 1)) far
  near_written far right longer same within = near_put ws near (far_place ws far) x right new longer same within (far_place (ws ++ x ∷ []) far) (far_kept ws far x)

  pub far_written : (far farther : Far) → LeadToPlaces ws near (Some far) → ((q : ℕ) → get nat_eq farther q ≡ cond (nat_eq x q) (Some (length ws)) (get nat_eq far q)) → LeadToPlaces (ws ++ x ∷ []) near (Some farther)
  far_written far farther right is = far_put ws near (get nat_eq far) x right new (get nat_eq farther) is

  pub none_written : LeadToPlaces ws near None → LeadToPlaces (ws ++ x ∷ []) near None
  none_written right n = elim (eqb_tells n x) [
    | inl t ↦ none_put ws near (far_place ws None) x right new n t.1
    | inr f ↦ rw (position_more (nat_eq n) ws x f.0) (right n)
  ]
