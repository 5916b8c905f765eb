-- What an import answers, for items that keys decide.
use Rattle.std.proofs.Common.{◌≡◌, ℕ, zero, suc, ◌<◌, List, [], ◌∷◌, ◌++◌, map, length, Bool, Option, Some, None, refl, sym, ap, ◌∙◌, arith, get_or}
use Rattle.std.specs.Prelude.{slice_get}
use Rattle.ir_core.specs.Lookup.{same_bytes}
use Rattle.ir_core.proofs.Gets.{get_mapped}
use Rattle.ir_semantics.specs.Import.{with_items, first_place, new_place}
use Rattle.std.proofs.lemmas.List.{length-map}
use Rattle.body_import.specs.Merged.{news, keep, key_places}
use Rattle.body_import.proofs.Decided.{places_decided, news_decided, kept_news, place_by_key, items_by_key}
use Rattle.body_import.proofs.FirstPlaces.{item_below, place_below, at_place, place_in_front}

place_in : {A : Type 0} (same : A → A → Bool) (all xs : List A) (k : ℕ) → new_place same all (slice_get xs k) ≡ get_or (map (first_place same all) xs) k (length all)
place_in same all [] k = refl
place_in same all (x ∷ xs) zero = refl
place_in same all (x ∷ xs) (suc k) = place_in same all xs k

module _ {A : Type 0} (same : A → A → Bool) (key : A → List ℕ) (decide : (x y : A) → same x y ≡ same_bytes (key x) (key y)) where
  pub added_is : (own xs added : List A) (flags flags' : List Bool) (keys : List (List ℕ)) → keys ≡ map key xs → flags ≡ news same_bytes (map key own) keys → flags' ≡ flags → added ≡ keep flags' xs → with_items same own xs ≡ own ++ added
  added_is own xs added flags flags' keys ek ef e a =
      kept_news same own xs ∙ ap (λ (z : List A). own ++ z) (ap (λ (z : List Bool). keep z xs) (news_decided same key decide own xs ∙ (ap (news same_bytes (map key own)) (sym ek) ∙ sym (e ∙ ef))) ∙ sym a)

  pub table_is : (own xs : List A) (places places' table : List ℕ) (keys : List (List ℕ)) → keys ≡ map key xs → places ≡ key_places (map key own) keys → places' ≡ places → table ≡ places' → table ≡ map (first_place same (with_items same own xs)) xs
  table_is own xs places places' table keys ek ep e t =
      t ∙ (e ∙ (ep ∙ (ap (key_places (map key own)) ek ∙ sym (places_decided same key decide own xs))))

  pub table_at : (own xs : List A) (table : List ℕ) → table ≡ map (first_place same (with_items same own xs)) xs → (k : ℕ) → new_place same (with_items same own xs) (slice_get xs k) ≡ get_or table k (length (with_items same own xs))
  table_at own xs table e k =
      let all = with_items same own xs in
      place_in same all xs k ∙ ap (λ (z : List ℕ). get_or z k (length all)) (sym e)

  -- an item of the second list has a place in the merged one
  pub within : (own xs : List A) (k : ℕ) (x : A) → slice_get xs k ≡ Some x → first_place same (with_items same own xs) x < length (with_items same own xs)
  within own xs k x e =
      let all = with_items same own xs in
      let h = item_below (map key own) (map key xs) k (key x) (get_mapped key xs k x e) in
      let q : first_place same_bytes (with_items same_bytes (map key own) (map key xs)) (key x) ≡ first_place same all x = ap (λ (z : List (List ℕ)). first_place same_bytes z (key x)) (sym (items_by_key same key decide own xs)) ∙ sym (place_by_key same key decide all x) in
      let l : length (with_items same_bytes (map key own) (map key xs)) ≡ length all = ap length (sym (items_by_key same key decide own xs)) ∙ length-map all key in
      omega (arith, h, q, l)

  -- an item has its place where it stands
  pub here : (all : List A) (k : ℕ) (x : A) → slice_get all k ≡ Some x → first_place same all x < length all
  here all k x e =
      let h = place_below (map key all) k (key x) (get_mapped key all k x e) in
      let q = place_by_key same key decide all x in
      let l = length-map all key in
      omega (arith, h, q, l)

  -- further items do not change the place
  pub in_front : (all more : List A) (k : ℕ) (x : A) → slice_get all k ≡ Some x → first_place same (all ++ more) x ≡ first_place same all x
  in_front all more k x e =
      place_by_key same key decide (all ++ more) x
      ∙ (ap (λ (z : List (List ℕ)). first_place same_bytes z (key x)) (map_join all more)
      ∙ (place_in_front (map key all) (map key more) k (key x) (get_mapped key all k x e) ∙ sym (place_by_key same key decide all x)))
    where
      map_join : (xs ys : List A) → map key (xs ++ ys) ≡ map key xs ++ map key ys
      map_join [] ys = refl
      map_join (y ∷ xs) ys = ap (λ z. key y ∷ z) (map_join xs ys)

  -- what stands at the place of an item has the same place
  pub again : (all : List A) (x : A) → first_place same all x < length all → new_place same all (slice_get all (first_place same all x)) ≡ first_place same all x
  again all x h = go (slice_get all (first_place same all x)) refl
    where
      go : (o : Option A) → slice_get all (first_place same all x) ≡ o → new_place same all o ≡ first_place same all x
      go None e =
          let q = place_by_key same key decide all x in
          let l = length-map all key in
          let b : first_place same_bytes (map key all) (key x) < length (map key all) = omega (arith, h, q, l) in
          let s : slice_get (map key all) (first_place same all x) ≡ Some (key x) = ap (slice_get (map key all)) q ∙ at_place (map key all) (key x) b in
          let n : slice_get (map key all) (first_place same all x) ≡ None = nothing all (first_place same all x) e in
          cc
        where
          nothing : (xs : List A) (k : ℕ) → slice_get xs k ≡ None → slice_get (map key xs) k ≡ None
          nothing [] k e = refl
          nothing (y ∷ xs) zero e = cc
          nothing (y ∷ xs) (suc k) e = nothing xs k e
      go (Some z) e =
          let q = place_by_key same key decide all x in
          let l = length-map all key in
          let b : first_place same_bytes (map key all) (key x) < length (map key all) = omega (arith, h, q, l) in
          let s : slice_get (map key all) (first_place same all x) ≡ Some (key x) = ap (slice_get (map key all)) q ∙ at_place (map key all) (key x) b in
          let n : slice_get (map key all) (first_place same all x) ≡ Some (key z) = get_mapped key all (first_place same all x) z e in
          let r : key z ≡ key x = cc in
          place_by_key same key decide all z ∙ (ap (first_place same_bytes (map key all)) r ∙ sym q)
