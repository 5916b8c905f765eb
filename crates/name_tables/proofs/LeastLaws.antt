-- The least place of a growing set.
use Rattle.std.proofs.Common.{◌≡◌, ℕ, zero, suc, ◌<◌, ◌≤◌, ◌⊎◌, List, [], ◌∷◌, ◌++◌, length, slice_get, Option, None, Some, refl, ap, arith, inl, inr}
use Rattle.std.specs.Prelude.{fold}
use Rattle.std.proofs.lemmas.Bool.Decides.{leb_tells}
use Rattle.name_tables.specs.Least.{IsLeast, earlier_spot, earlier_of}

module _ {A : Type 0} where
  pub get_push : (xs : List A) (y : A) (i : ℕ) (x : A) → slice_get (xs ++ y ∷ []) i ≡ Some x → (slice_get xs i ≡ Some x) ⊎ ((i ≡ length xs) × (x ≡ y))
  get_push [] y zero x h = inr (refl, cc)
  get_push [] y (suc i) x h = absurd cc
  get_push (z ∷ xs) y zero x h = inl h
  get_push (z ∷ xs) y (suc i) x h = elim (get_push xs y i x h) [ inl a ↦ inl a | inr b ↦ inr (ap suc b.0, b.1) ]

  pub get_front : (xs ys : List A) (i : ℕ) (x : A) → slice_get xs i ≡ Some x → slice_get (xs ++ ys) i ≡ Some x
  get_front [] ys i x h = absurd cc
  get_front (z ∷ xs) ys zero x h = h
  get_front (z ∷ xs) ys (suc i) x h = get_front xs ys i x h

  pub get_last : (xs : List A) (y : A) → slice_get (xs ++ y ∷ []) (length xs) ≡ Some y
  get_last [] y = refl
  get_last (z ∷ xs) y = get_last xs y

-- the set P grows by the place b alone
pub least_add : (P Q : ℕ → Type 0) (o : Option ℕ) (b : ℕ) → IsLeast P o → Q b → ((s : ℕ) → P s → Q s) → ((s : ℕ) → Q s → P s ⊎ (s ≡ b)) → IsLeast Q (earlier_spot o b)
least_add P Q None b h q up split = (q, λ s qs. elim (split s qs) [ inl p ↦ absurd (h s p) | inr e ↦ omega arith ])
least_add P Q (Some a) b h q up split = elim (leb_tells a b) [
  | inl t ↦ rw t.0 (up a h.0, λ s qs. elim (split s qs) [ inl p ↦ h.1 s p | inr e ↦ (let le : a ≤ b = t.1 in omega arith) ])
  | inr t ↦ rw t.0 (q, λ s qs. elim (split s qs) [ inl p ↦ (let lt : b < a = t.1 in let le : a ≤ s = h.1 s p in omega arith) | inr e ↦ omega arith ])
]

-- the set stays
pub least_same : (P Q : ℕ → Type 0) (o : Option ℕ) → IsLeast P o → ((s : ℕ) → P s → Q s) → ((s : ℕ) → Q s → P s) → IsLeast Q o
least_same P Q None h up down = λ s q. h s (down s q)
least_same P Q (Some a) h up down = (up a h.0, λ s q. h.1 s (down s q))

-- ---- two sets

pub least_of_both : (P Q : ℕ → Type 0) (a b : Option ℕ) → IsLeast P a → IsLeast Q b → IsLeast (λ s. P s ⊎ Q s) (earlier_of a b)
least_of_both P Q None None h k = λ s e. elim e [ inl p ↦ h s p | inr q ↦ k s q ]
least_of_both P Q (Some x) None h k = (inl h.0, λ s e. elim e [ inl p ↦ h.1 s p | inr q ↦ absurd (k s q) ])
least_of_both P Q None (Some y) h k = (inr k.0, λ s e. elim e [ inl p ↦ absurd (h s p) | inr q ↦ k.1 s q ])
least_of_both P Q (Some x) (Some y) h k = elim (leb_tells x y) [
  | inl t ↦ rw t.0 (inl h.0, λ s e. elim e [ inl p ↦ h.1 s p | inr q ↦ (let le : x ≤ y = t.1 in let l : y ≤ s = k.1 s q in omega arith) ])
  | inr t ↦ rw t.0 (inr k.0, λ s e. elim e [ inl p ↦ (let lt : y < x = t.1 in let l : x ≤ s = h.1 s p in omega arith) | inr q ↦ k.1 s q ])
]

-- ---- the first of a list

module _ {X : Type 0} (bad : X → ℕ → Type 0) (step : Option ℕ → X → Option ℕ)
    (one : (x : X) (P : ℕ → Type 0) (o : Option ℕ) → IsLeast P o → IsLeast (λ s. P s ⊎ bad x s) (step o x)) where
  abbrev pub SomeBad : List X → ℕ → Type 0
  SomeBad xs s = (i : ℕ) × (x : X) × (slice_get xs i ≡ Some x) × bad x s

  folds : (xs : List X) (P : ℕ → Type 0) (o : Option ℕ) → IsLeast P o → IsLeast (λ s. P s ⊎ SomeBad xs s) (fold step o xs)
  folds [] P o h = least_same P (λ s. P s ⊎ SomeBad [] s) o h (λ s p. inl p) (λ s e. elim e [ inl p ↦ p | inr q ↦ absurd (let g = q.2 in cc) ])
  folds (x ∷ xs) P o h = least_same (λ s. (P s ⊎ bad x s) ⊎ SomeBad xs s) (λ s. P s ⊎ SomeBad (x ∷ xs) s) (fold step (step o x) xs)
      (folds xs (λ s. P s ⊎ bad x s) (step o x) (one x P o h)) up down
    where
      up : (s : ℕ) → (P s ⊎ bad x s) ⊎ SomeBad xs s → P s ⊎ SomeBad (x ∷ xs) s
      up s (inl (inl p)) = inl p
      up s (inl (inr b)) = inr (zero, x, refl, b)
      up s (inr (i, y, at, b)) = inr (suc i, y, at, b)

      later : (s i : ℕ) (y : X) → slice_get (x ∷ xs) i ≡ Some y → bad y s → (P s ⊎ bad x s) ⊎ SomeBad xs s
      later s zero y at b = inl (inr (let e : x ≡ y = cc in rw e b))
      later s (suc i) y at b = inr (i, y, at, b)

      down : (s : ℕ) → P s ⊎ SomeBad (x ∷ xs) s → (P s ⊎ bad x s) ⊎ SomeBad xs s
      down s (inl p) = inl (inl p)
      down s (inr (i, y, at, b)) = later s i y at b

  pub least_of_list : (xs : List X) → IsLeast (SomeBad xs) (fold step None xs)
  least_of_list xs = least_same (λ s. ⊥ ⊎ SomeBad xs s) (SomeBad xs) (fold step None xs) (folds xs (λ s. ⊥) None (λ s e. e)) (λ s e. elim e [ inl f ↦ absurd f | inr b ↦ b ]) (λ s b. inr b)

-- a step that adds a spot, or none
pub add_spot : (P : ℕ → Type 0) (Q : ℕ → Type 0) (o : Option ℕ) (b : ℕ) → IsLeast P o → Q b → ((s : ℕ) → Q s → s ≡ b) → IsLeast (λ s. P s ⊎ Q s) (earlier_spot o b)
add_spot P Q o b h q one = least_add P (λ s. P s ⊎ Q s) o b h (inr q) (λ s p. inl p) (λ s e. elim e [ inl p ↦ inl p | inr r ↦ inr (one s r) ])

pub add_none : (P : ℕ → Type 0) (Q : ℕ → Type 0) (o : Option ℕ) → IsLeast P o → ((s : ℕ) → Q s → ⊥) → IsLeast (λ s. P s ⊎ Q s) o
add_none P Q o h none = least_same P (λ s. P s ⊎ Q s) o h (λ s p. inl p) (λ s e. elim e [ inl p ↦ p | inr r ↦ absurd (none s r) ])
