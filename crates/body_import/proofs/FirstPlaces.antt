-- The first place of an item that stands in a list.
use Rattle.std.proofs.Common.{◌≡◌, ℕ, zero, suc, ◌+◌, ◌<◌, List, [], ◌∷◌, ◌++◌, length, Bool, true, false, Some, refl, sym, ap, ◌∙◌, arith, eq-eqb, ne_eqb, get_or}
use Rattle.std.specs.Prelude.{if◌then◌else◌, slice_get, nat_eq}
use Rattle.ir_core.specs.Lookup.{same_bytes}
use Rattle.ir_core.specs.Lists.{Each}
use Rattle.ir_core.proofs.Equal.{bytes_same, bytes_equal}
use Rattle.ir_semantics.specs.Import.{with_item, with_items, first_place}
use Rattle.body_import.specs.Merged.{is_new, keep}
use Rattle.body_import.proofs.Lists.{old_left, longer}

-- ---- lists of numbers

pub place_below : (K : List (List ℕ)) (i : ℕ) (x : List ℕ) → slice_get K i ≡ Some x → first_place same_bytes K x < length K
place_below [] i x e = cc
place_below (z ∷ K) zero x e =
    let q : z ≡ x = cc in
    let t : same_bytes z x ≡ true = ap (λ (v : List ℕ). same_bytes z v) (sym q) ∙ bytes_same z in
    let s : first_place same_bytes (z ∷ K) x ≡ 0 = ap (λ (b : Bool). if b then 0 else suc (first_place same_bytes K x)) t in
    omega (arith, s)
place_below (z ∷ K) (suc i) x e = go (same_bytes z x) (place_below K i x e)
  where
    go : (b : Bool) → first_place same_bytes K x < length K → (if b then 0 else suc (first_place same_bytes K x)) < length (z ∷ K)
    go true h = omega arith
    go false h = omega (arith, h)

pub at_place : (K : List (List ℕ)) (x : List ℕ) → first_place same_bytes K x < length K → slice_get K (first_place same_bytes K x) ≡ Some x
at_place [] x h = absurd (omega (arith, h))
at_place (z ∷ K) x h = go (same_bytes z x) refl h (λ g. at_place K x g)
  where
    go : (b : Bool) → same_bytes z x ≡ b → (if b then 0 else suc (first_place same_bytes K x)) < length (z ∷ K) → (first_place same_bytes K x < length K → slice_get K (first_place same_bytes K x) ≡ Some x) → slice_get (z ∷ K) (if b then 0 else suc (first_place same_bytes K x)) ≡ Some x
    go true e l ih = ap Some (bytes_equal z x e)
    go false e l ih = ih (omega (arith, l))

pub places_decide : (K : List (List ℕ)) (x y : List ℕ) → first_place same_bytes K x < length K → first_place same_bytes K y < length K → same_bytes x y ≡ nat_eq (first_place same_bytes K x) (first_place same_bytes K y)
places_decide K x y px py = go (same_bytes x y) refl
  where
    go : (b : Bool) → same_bytes x y ≡ b → b ≡ nat_eq (first_place same_bytes K x) (first_place same_bytes K y)
    go true e = sym (eq-eqb (first_place same_bytes K x) (first_place same_bytes K y) (ap (first_place same_bytes K) (bytes_equal x y e)))
    go false e =
        sym (ne_eqb (first_place same_bytes K x) (first_place same_bytes K y) (λ q.
        let s : Some x ≡ Some y = sym (at_place K x px) ∙ (ap (slice_get K) q ∙ at_place K y py) in
        let r : x ≡ y = cc in
        let t : same_bytes x y ≡ true = ap (λ (v : List ℕ). same_bytes x v) (sym r) ∙ bytes_same x in
        cc))

place_if_old : (K : List (List ℕ)) (x : List ℕ) → is_new same_bytes K x ≡ false → first_place same_bytes K x < length K
place_if_old [] x e = cc
place_if_old (z ∷ K) x e = go (same_bytes z x) e (λ g. place_if_old K x g)
  where
    go : (b : Bool) → (if b then false else is_new same_bytes K x) ≡ false → (is_new same_bytes K x ≡ false → first_place same_bytes K x < length K) → (if b then 0 else suc (first_place same_bytes K x)) < length (z ∷ K)
    go true h ih = omega arith
    go false h ih = let r = ih h in omega (arith, r)

item_is_old : (K : List (List ℕ)) (x : List ℕ) → is_new same_bytes (with_item same_bytes K x) x ≡ false
item_is_old [] x = ap (λ (b : Bool). if b then false else true) (bytes_same x)
item_is_old (z ∷ K) x = go (same_bytes z x) refl (item_is_old K x)
  where
    go : (b : Bool) → same_bytes z x ≡ b → is_new same_bytes (with_item same_bytes K x) x ≡ false → is_new same_bytes (if b then z ∷ K else z ∷ with_item same_bytes K x) x ≡ false
    go true e h = ap (λ (b : Bool). if b then false else is_new same_bytes K x) e
    go false e h = ap (λ (b : Bool). if b then false else is_new same_bytes (with_item same_bytes K x) x) e ∙ h

-- each item stands in the merged list
pub item_below : (ys xs : List (List ℕ)) (k : ℕ) (x : List ℕ) → slice_get xs k ≡ Some x → first_place same_bytes (with_items same_bytes ys xs) x < length (with_items same_bytes ys xs)
item_below ys [] k x e = cc
item_below ys (z ∷ xs) zero x e =
    let q : z ≡ x = cc in
    let all = with_items same_bytes (with_item same_bytes ys z) xs in
    let l = longer same_bytes (with_item same_bytes ys z) xs in
    let old : is_new same_bytes (with_item same_bytes ys z) x ≡ false = ap (is_new same_bytes (with_item same_bytes ys z)) (sym q) ∙ item_is_old ys z in
    let now : is_new same_bytes all x ≡ false = ap (λ (v : List (List ℕ)). is_new same_bytes v x) l.is ∙ (old_left same_bytes x (with_item same_bytes ys z) l.more old).0 in
    place_if_old all x now
item_below ys (z ∷ xs) (suc k) x e = item_below (with_item same_bytes ys z) xs k x e

-- a place in the beginning of a list
pub place_in_front : (K more : List (List ℕ)) (i : ℕ) (x : List ℕ) → slice_get K i ≡ Some x → first_place same_bytes (K ++ more) x ≡ first_place same_bytes K x
place_in_front [] more i x e = cc
place_in_front (z ∷ K) more zero x e =
    let q : z ≡ x = cc in
    let t : same_bytes z x ≡ true = ap (λ (v : List ℕ). same_bytes z v) (sym q) ∙ bytes_same z in
    ap (λ (b : Bool). if b then 0 else suc (first_place same_bytes (K ++ more) x)) t ∙ sym (ap (λ (b : Bool). if b then 0 else suc (first_place same_bytes K x)) t)
place_in_front (z ∷ K) more (suc i) x e = ap (λ (n : ℕ). if same_bytes z x then 0 else suc n) (place_in_front K more i x e)

-- ---- any lists

pub each_at : {A : Type 0} (P : A → Type 0) (xs : List A) (k : ℕ) (d : A) → Each P xs → k < length xs → P (get_or xs k d)
each_at P [] k d h l = absurd (omega (arith, l))
each_at P (x ∷ xs) zero d h l = h.0
each_at P (x ∷ xs) (suc k) d h l = each_at P xs k d h.1 (omega (arith, l))

pub kept_shorter : {A : Type 0} (flags : List Bool) (xs : List A) → length (keep flags xs) < length xs + 1
kept_shorter [] xs = omega arith
kept_shorter (b ∷ bs) [] = omega arith
kept_shorter {A = A} (b ∷ bs) (x ∷ xs) = go b (kept_shorter bs xs)
  where
    go : (b : Bool) → length (keep bs xs) < length xs + 1 → length (if b then x ∷ keep bs xs else keep bs xs) < length (x ∷ xs) + 1
    go true h = omega (arith, h)
    go false h = omega (arith, h)
