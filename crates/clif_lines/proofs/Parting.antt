-- A list parted at one of its places.
use Rattle.std.proofs.Common.{◌≡◌, ℕ, zero, suc, ◌+◌, ◌<◌, ◌≤◌, List, [], ◌∷◌, ◌++◌, length, map, take, drop, get_or, slice_get, Some, refl, sym, ap, arith, add-one}
use Rattle.std.specs.Prelude.{flat_map}
use Rattle.std.proofs.lemmas.Grind.{flat_map-append}
use Rattle.std.proofs.lemmas.List.{append-nil, take_more}
use Rattle.ir_core.specs.Lists.{Each}
use Rattle.ir_core.proofs.Members.{each_left, each_right}

module _ {A : Type 0} where
  pub parted : (xs : List A) (i : ℕ) (x : A) → slice_get xs i ≡ Some x → xs ≡ take i xs ++ x ∷ drop (suc i) xs
  parted [] i x h = absurd cc
  parted (y ∷ ys) zero x h = (let e : y ≡ x = cc in ap (λ z. z ∷ ys) e)
  parted (y ∷ ys) (suc i) x h = ap (λ zs. y ∷ zs) (parted ys i x h)

  pub parted_next : (xs : List A) (i : ℕ) (x : A) → slice_get xs i ≡ Some x → take (suc i) xs ≡ take i xs ++ x ∷ []
  parted_next [] i x h = absurd cc
  parted_next (y ∷ ys) zero x h = (let e : y ≡ x = cc in ap (λ z. z ∷ []) e)
  parted_next (y ∷ ys) (suc i) x h = ap (λ zs. y ∷ zs) (parted_next ys i x h)

  pub parted_one : (xs : List A) (i : ℕ) (x : A) → slice_get xs i ≡ Some x → drop i xs ≡ x ∷ drop (suc i) xs
  parted_one [] i x h = absurd cc
  parted_one (y ∷ ys) zero x h = (let e : y ≡ x = cc in ap (λ z. z ∷ ys) e)
  parted_one (y ∷ ys) (suc i) x h = parted_one ys i x h

  pub parted_long : (xs : List A) (i : ℕ) (x : A) → slice_get xs i ≡ Some x → length (take i xs) ≡ i
  parted_long [] i x h = absurd cc
  parted_long (y ∷ ys) zero x h = refl
  parted_long (y ∷ ys) (suc i) x h = ap suc (parted_long ys i x h)

  pub got : (xs : List A) (i : ℕ) (x : A) → i < length xs → x ≡ get_or xs i x → slice_get xs i ≡ Some x
  got [] i x lt e = absurd (omega (arith, lt))
  got (y ∷ ys) zero x lt e = ap Some (sym e)
  got (y ∷ ys) (suc i) x lt e = got ys i x (omega (arith, lt)) e

  pub got_or : (xs : List A) (i : ℕ) (d : A) → i < length xs → slice_get xs i ≡ Some (get_or xs i d)
  got_or [] i d lt = absurd (omega (arith, lt))
  got_or (y ∷ ys) zero d lt = refl
  got_or (y ∷ ys) (suc i) d lt = got_or ys i d (omega (arith, lt))

  pub got_some : (xs : List A) (i : ℕ) → i < length xs → (x : A) × (slice_get xs i ≡ Some x)
  got_some [] i lt = absurd (omega (arith, lt))
  got_some (y ∷ ys) zero lt = (y, refl)
  got_some (y ∷ ys) (suc i) lt = got_some ys i (omega (arith, lt))

  pub each_at : (P : A → Type 0) (xs : List A) (i : ℕ) (x : A) → Each P xs → slice_get xs i ≡ Some x → P x
  each_at P [] i x h at = absurd cc
  each_at P (y ∷ ys) zero x h at = (let e : y ≡ x = cc in rw (sym e) h.0)
  each_at P (y ∷ ys) (suc i) x h at = each_at P ys i x h.1 at

module _ {A B : Type 0} where
  pub each_part : (P : B → Type 0) (g : A → List B) (xs : List A) (i : ℕ) (x : A) → Each P (flat_map g xs) → slice_get xs i ≡ Some x → Each P (g x)
  each_part P g [] i x h at = absurd cc
  each_part P g (y ∷ ys) zero x h at = (let e : y ≡ x = cc in rw (sym e) (each_left P (g y) (flat_map g ys) h))
  each_part P g (y ∷ ys) (suc i) x h at = each_part P g ys i x (each_right P (g y) (flat_map g ys) h) at

  pub each_all : (P : B → Type 0) (g : A → List B) (xs : List A) → Each P (flat_map g xs) → Each (λ x. Each P (g x)) xs
  each_all P g [] h = tt
  each_all P g (x ∷ xs) h = (each_left P (g x) (flat_map g xs) h, each_all P g xs (each_right P (g x) (flat_map g xs) h))

  pub each_mapped : (P : B → Type 0) (f : A → B) (xs : List A) (i : ℕ) (x : A) → Each P (map f xs) → slice_get xs i ≡ Some x → P (f x)
  each_mapped P f [] i x h at = absurd cc
  each_mapped P f (y ∷ ys) zero x h at = (let e : y ≡ x = cc in rw (sym e) h.0)
  each_mapped P f (y ∷ ys) (suc i) x h at = each_mapped P f ys i x h.1 at

  -- one more part
  pub flat_more : (g : A → List B) (xs : List A) (i : ℕ) (x : A) → i < length xs → x ≡ get_or xs i x → flat_map g (take (i + 1) xs) ≡ flat_map g (take i xs) ++ g x
  flat_more g xs i x h e = rw (take_more xs i x h, flat_map-append g (take i xs) (get_or xs i x ∷ []), append-nil (g (get_or xs i x)), ← e) refl

  pub map_next : (f : A → B) (xs : List A) (i : ℕ) (x : A) → slice_get xs i ≡ Some x → map f (take (i + 1) xs) ≡ map f (take i xs) ++ f x ∷ []
  map_next f [] i x h = absurd cc
  map_next f (y ∷ ys) zero x h = (let e : y ≡ x = cc in ap (λ z. f z ∷ []) e)
  map_next f (y ∷ ys) (suc i) x h = rw (add-one (suc i)) (ap (λ zs. f y ∷ zs) (rw (add-one i) at (map_next f ys i x h)))

  pub map_one : (f : A → B) (xs : List A) (d : A) → 1 ≤ length xs → length xs < 2 → map f xs ≡ f (get_or xs 0 d) ∷ []
  map_one f [] d h k = absurd (omega (arith, h))
  map_one f (x ∷ []) d h k = refl
  map_one f (x ∷ y ∷ ys) d h k = absurd (omega (arith, k))

  pub map_two : (f : A → B) (xs : List A) (d : A) → 2 ≤ length xs → length xs < 3 → map f xs ≡ f (get_or xs 0 d) ∷ f (get_or xs 1 d) ∷ []
  map_two f [] d h k = absurd (omega (arith, h))
  map_two f (x ∷ []) d h k = absurd (omega (arith, h))
  map_two f (x ∷ y ∷ []) d h k = refl
  map_two f (x ∷ y ∷ z ∷ zs) d h k = absurd (omega (arith, k))
