-- Merged lists of items that keys decide.
use Rattle.std.proofs.Common.{◌≡◌, ℕ, suc, List, [], ◌∷◌, ◌++◌, map, Bool, true, false, refl, sym, ap, ap₂, ◌∙◌, append_assoc, append-nil}
use Rattle.std.specs.Prelude.{if◌then◌else◌}
use Rattle.ir_core.specs.Lookup.{same_bytes}
use Rattle.ir_semantics.specs.Import.{with_item, with_items, first_place}
use Rattle.body_import.specs.Merged.{is_new, news, keep, key_places}
use Rattle.body_import.proofs.Lists.{old_stays, new_goes}

module _ {A : Type 0} (same : A → A → Bool) (key : A → List ℕ) (decide : (x y : A) → same x y ≡ same_bytes (key x) (key y)) where
  new_by_key : (ys : List A) (x : A) → is_new same ys x ≡ is_new same_bytes (map key ys) (key x)
  new_by_key [] x = refl
  new_by_key (y ∷ ys) x = ap₂ (λ (b c : Bool). if b then false else c) (decide y x) (new_by_key ys x)

  pub place_by_key : (ys : List A) (x : A) → first_place same ys x ≡ first_place same_bytes (map key ys) (key x)
  place_by_key [] x = refl
  place_by_key (y ∷ ys) x = ap₂ (λ (b : Bool) (n : ℕ). if b then 0 else suc n) (decide y x) (place_by_key ys x)

  item_by_key : (ys : List A) (x : A) → map key (with_item same ys x) ≡ with_item same_bytes (map key ys) (key x)
  item_by_key [] x = refl
  item_by_key (y ∷ ys) x = go (same y x) (item_by_key ys x) ∙ ap (λ (b : Bool). if b then key y ∷ map key ys else key y ∷ with_item same_bytes (map key ys) (key x)) (decide y x)
    where
      go : (b : Bool) → map key (with_item same ys x) ≡ with_item same_bytes (map key ys) (key x) → map key (if b then y ∷ ys else y ∷ with_item same ys x) ≡ (if b then key y ∷ map key ys else key y ∷ with_item same_bytes (map key ys) (key x))
      go true h = refl
      go false h = ap (λ z. key y ∷ z) h

  pub items_by_key : (ys xs : List A) → map key (with_items same ys xs) ≡ with_items same_bytes (map key ys) (map key xs)
  items_by_key ys [] = refl
  items_by_key ys (x ∷ xs) = items_by_key (with_item same ys x) xs ∙ ap (λ z. with_items same_bytes z (map key xs)) (item_by_key ys x)

  places_by_key : (all xs : List A) → map (first_place same all) xs ≡ map (first_place same_bytes (map key all)) (map key xs)
  places_by_key all [] = refl
  places_by_key all (x ∷ xs) = ap₂ (λ (n : ℕ) (ns : List ℕ). n ∷ ns) (place_by_key all x) (places_by_key all xs)

  pub places_decided : (ys xs : List A) → map (first_place same (with_items same ys xs)) xs ≡ key_places (map key ys) (map key xs)
  places_decided ys xs = places_by_key (with_items same ys xs) xs ∙ ap (λ z. map (first_place same_bytes z) (map key xs)) (items_by_key ys xs)

  pub news_decided : (ys xs : List A) → news same ys xs ≡ news same_bytes (map key ys) (map key xs)
  news_decided ys [] = refl
  news_decided ys (x ∷ xs) = ap₂ (λ (b : Bool) (bs : List Bool). b ∷ bs) (new_by_key ys x) (news_decided (with_item same ys x) xs ∙ ap (λ z. news same_bytes z (map key xs)) (item_by_key ys x))

pub kept_news : {A : Type 0} (same : A → A → Bool) (ys xs : List A) → with_items same ys xs ≡ ys ++ keep (news same ys xs) xs
kept_news same ys [] = sym (append-nil ys)
kept_news {A = A} same ys (x ∷ xs) = kept_news same (with_item same ys x) xs ∙ go (is_new same ys x) refl
  where
    go : (b : Bool) → is_new same ys x ≡ b → with_item same ys x ++ keep (news same (with_item same ys x) xs) xs ≡ ys ++ (if b then x ∷ keep (news same (with_item same ys x) xs) xs else keep (news same (with_item same ys x) xs) xs)
    go true e = ap (λ z. z ++ keep (news same (with_item same ys x) xs) xs) (new_goes same x ys e) ∙ append_assoc ys (x ∷ []) (keep (news same (with_item same ys x) xs) xs)
    go false e = ap (λ z. z ++ keep (news same (with_item same ys x) xs) xs) (old_stays same x ys e)
