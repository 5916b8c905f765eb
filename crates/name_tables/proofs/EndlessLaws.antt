-- The first alias line whose chain never ends.
use Rattle.std.proofs.Common.{◌≡◌, ℕ, zero, suc, ◌<◌, ◌⊎◌, List, [], ◌∷◌, length, slice_get, get_or, Option, Some, map, refl, sym, ap, ◌∙◌, arith}
use Rattle.std.specs.Prelude.{zip}
use Rattle.std.proofs.lemmas.List.{length-map}
use Rattle.std.proofs.lemmas.Option.{slice_get-get_or, get_or_from_slice_get, slice_get_within}
use Rattle.name_tables.specs.declared.firsts.Def.{Def}
use Rattle.name_tables.specs.declared.links.End.{End}
use Rattle.name_tables.specs.declared.links.End.TheVariants.{At, Nowhere, Endless}
use Rattle.name_tables.specs.declared.tables.Tables.{Tables}
use Rattle.name_tables.specs.Aliases.{link_of, note_end, note_pair, least_endless}
use Rattle.name_tables.specs.Chains.{look, IsEndless}
use Rattle.name_tables.specs.Least.{IsLeast}
use Rattle.name_tables.specs.Links as places
use Rattle.name_tables.proofs.ChainPlaces.{number, place, look_place, Firsts, chain_same}
use Rattle.name_tables.proofs.ChainWords.{endless_words, words_endless}
use Rattle.name_tables.proofs.LeastLaws.{SomeBad, least_of_list, add_spot, add_none, least_same}

abbrev bad_pair : Def × End → ℕ → Type 0
bad_pair p s = (p.1 ≡ Endless) × (p.0.name.spot ≡ s)

one_pair : (p : Def × End) (P : ℕ → Type 0) (o : Option ℕ) → IsLeast P o → IsLeast (λ s. P s ⊎ bad_pair p s) (note_pair o p)
one_pair (d, e) P o h = by e
  where
    by : (e : End) → IsLeast (λ s. P s ⊎ bad_pair (d, e) s) (note_end o d.name.spot e)
    by (At j) = add_none P (bad_pair (d, At j)) o h (λ s (a, b). absurd cc)
    by Nowhere = add_none P (bad_pair (d, Nowhere)) o h (λ s (a, b). absurd cc)
    by Endless = add_spot P (bad_pair (d, Endless)) o d.name.spot h (refl, refl) (λ s (a, b). sym b)

zip_at : (xs : List Def) (es : List End) (i : ℕ) (d : Def) (e : End) → slice_get xs i ≡ Some d → slice_get es i ≡ Some e → slice_get (zip xs es) i ≡ Some (d, e)
zip_at [] es i d e a b = absurd cc
zip_at (x ∷ xs) [] i d e a b = absurd cc
zip_at (x ∷ xs) (y ∷ es) zero d e a b = (let s : x ≡ d = cc in let t : y ≡ e = cc in rw (s, t) refl)
zip_at (x ∷ xs) (y ∷ es) (suc i) d e a b = zip_at xs es i d e a b

at_zip : (xs : List Def) (es : List End) (i : ℕ) (p : Def × End) → slice_get (zip xs es) i ≡ Some p → (slice_get xs i ≡ Some p.0) × (slice_get es i ≡ Some p.1)
at_zip [] es i p h = absurd cc
at_zip (x ∷ xs) [] i p h = absurd cc
at_zip (x ∷ xs) (y ∷ es) zero p h = (let e : (x, y) ≡ p = pair_is h in (ap (λ (q : Def × End). Some q.0) e, ap (λ (q : Def × End). Some q.1) e))
  where
    pair_is : {a b : Def × End} → Some a ≡ Some b → a ≡ b
    pair_is g = cc
at_zip (x ∷ xs) (y ∷ es) (suc i) p h = at_zip xs es i p h

module _ (defs : List Def) (t : Tables) (first : Firsts defs t) (ends : List End) (right : places.AreEnds (map (link_of (map number t.firsts)) t.firsts) ends) where
  abbrev fs : List Def
  fs = t.firsts

  within_ends : (i : ℕ) → i < length fs → i < length ends
  within_ends i h = omega (arith, right.0, length-map fs (link_of (map number fs)))

  up : (s : ℕ) → SomeBad bad_pair note_pair one_pair (zip fs ends) s → IsEndless defs s
  up s (i, p, at, (is, spot)) =
      let (d_at, e_at) = at_zip fs ends i p at in
      let own = first.own i p.0 d_at in
      let found : look fs p.0.name.number ≡ Some p.0 = sym (look_place fs p.0.name.number) ∙ ap (slice_get fs) own ∙ d_at in
      let end : get_or ends (place (map number fs) p.0.name.number) Nowhere ≡ Endless = ap (λ (k : ℕ). get_or ends k Nowhere) own ∙ get_or_from_slice_get ends i p.1 Nowhere e_at ∙ is in
      let never = endless_words fs ends right p.0.name.number p.0 found end in
      (p.0.name.number, p.0, first.looks p.0.name.number ∙ found, spot, λ k. chain_same defs fs first.looks k p.0 ∙ never k)

  down : (s : ℕ) → IsEndless defs s → SomeBad bad_pair note_pair one_pair (zip fs ends) s
  down s (n, d, found, spot, never) =
      let here : look fs n ≡ Some d = sym (first.looks n) ∙ found in
      let at : slice_get fs (place (map number fs) n) ≡ Some d = look_place fs n ∙ here in
      let end = words_endless fs ends right n d here (λ k. sym (chain_same defs fs first.looks k d) ∙ never k) in
      let within = within_ends (place (map number fs) n) (slice_get_within fs (place (map number fs) n) d at) in
      (place (map number fs) n, (d, Endless), zip_at fs ends (place (map number fs) n) d Endless at (slice_get-get_or ends (place (map number fs) n) Nowhere within ∙ ap (λ (x : End). Some x) end), (refl, spot))

  pub endless_least : IsLeast (IsEndless defs) (least_endless fs ends)
  endless_least = least_same (SomeBad bad_pair note_pair one_pair (zip fs ends)) (IsEndless defs) (least_endless fs ends) (least_of_list bad_pair note_pair one_pair (zip fs ends)) up down
