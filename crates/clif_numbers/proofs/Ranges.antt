-- Definitions of a sound function are in range, and not too many.
use Rattle.std.proofs.Common.{◌≡◌, ℕ, zero, suc, ◌<◌, ◌≤◌, ◌^◌, List, [], ◌∷◌, Bool, true, false, nat_eq, cond, length, refl, sym, ◌∙◌, inl, inr, arith, eq-eqb}
use Rattle.std.proofs.lemmas.Bool.{eqb-true}
use Rattle.ir_core.specs.Lists.{In, Different, Below}
use Rattle.ir_core.specs.Lookup.{definitions}
use Rattle.ir_core.specs.Module.{Function}
use Rattle.ir_core.specs.Sound.{IsSound}
use Rattle.ir_core.proofs.Counting.{defined_bound}

-- without one number
without : ℕ → List ℕ → List ℕ
without n [] = []
without n (x ∷ xs) = cond (nat_eq x n) xs (x ∷ without n xs)

in_without : (n m : ℕ) (xs : List ℕ) → In m (without n xs) → In m xs
unfolding without
in_without n m [] h = absurd h
in_without n m (x ∷ xs) h = go (nat_eq x n) (in_without n m xs) h
  where
    go : (b : Bool) → (In m (without n xs) → In m xs) → In m (cond b xs (x ∷ without n xs)) → In m (x ∷ xs)
    go true ih h = inr h
    go false ih h = elim h [ inl e ↦ inl e | inr k ↦ inr (ih k) ]

different_without : (n : ℕ) (xs : List ℕ) → Different xs → Different (without n xs)
unfolding without
different_without n [] d = tt
different_without n (x ∷ xs) d = go (nat_eq x n) (different_without n xs d.1)
  where
    go : (b : Bool) → Different (without n xs) → Different (cond b xs (x ∷ without n xs))
    go true ih = d.1
    go false ih = (λ h. d.0 (in_without n x xs h), ih)

-- fewer, and none of the greatest
below_without : (n : ℕ) (xs : List ℕ) → Different xs → Below (suc n) xs → Below n (without n xs)
unfolding without
below_without n [] d h = tt
below_without n (x ∷ xs) d h = go (nat_eq x n) refl (below_without n xs d.1 h.1)
  where
    rest : (ys : List ℕ) → (In x ys → ⊥) → x ≡ n → Below (suc n) ys → Below n ys
    rest [] out e k = tt
    rest (y ∷ ys) out e k = (let other : y ≡ n → ⊥ = λ f. out (inl (e ∙ sym f)) in omega (arith, k.0, other), rest ys (λ g. out (inr g)) e k.1)

    go : (b : Bool) → nat_eq x n ≡ b → Below n (without n xs) → Below n (cond b xs (x ∷ without n xs))
    go true e ih = rest xs d.0 (eqb-true x n e) h.1
    go false e ih = (let other : x ≡ n → ⊥ = λ f. (let g = eq-eqb x n f in absurd cc) in omega (arith, h.0, other), ih)

length_without : (n : ℕ) (xs : List ℕ) → length xs ≤ suc (length (without n xs))
unfolding without
length_without n [] = omega arith
length_without n (x ∷ xs) = go (nat_eq x n) (length_without n xs)
  where
    go : (b : Bool) → length xs ≤ suc (length (without n xs)) → length (x ∷ xs) ≤ suc (length (cond b xs (x ∷ without n xs)))
    go true ih = omega arith
    go false ih = omega (arith, ih)

-- different numbers below a bound are no more than the bound
pub few : (n : ℕ) (xs : List ℕ) → Different xs → Below n xs → length xs ≤ n
few zero [] d h = omega arith
few zero (x ∷ xs) d h = absurd (omega (arith, h.0))
few (suc n) xs d h = omega (arith, length_without n xs, few n (without n xs) (different_without n xs d) (below_without n xs d h))

pub all_few : (f : Function) → IsSound f → length (definitions f.blocks) < 2 ^ 32
all_few f s = omega (arith, defined_bound f s, s.small.values)
