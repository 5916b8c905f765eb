-- Lists of numbers and of typed values, and what holds of each of them.
use Rattle.std.proofs.Common.{◌≡◌, ℕ, zero, suc, ◌+◌, ◌<◌, nat_eq, Bool, true, false, cond, List, [], ◌∷◌, ◌++◌, map, length, Option, Some, refl, sym, ap, ap₂, subst, ◌∙◌, arith, inl, inr}
use Rattle.std.specs.Prelude.{◌⊎◌, flat_map, is_some, IsSome}
use Rattle.std.specs.List.{range_with_len}
use Rattle.std.proofs.lemmas.Bool.{eqb-true}
use Rattle.std.proofs.lemmas.Bool.Decides.{nat_tests}
use Rattle.std.proofs.lemmas.List.{map-append}
use Rattle.ir_core.specs.Lists.{In, Different}
use Rattle.ir_core.specs.Lookup.{type_in, number_in}
use Rattle.ir_core.specs.declared.signatures.Ty.{Ty}

pub map_both : {X A B : Type 0} (f : X → A) (h : A → B) (xs : List X) → map h (map f xs) ≡ map (λ x. h (f x)) xs
map_both f h [] = refl
map_both {X} {A} {B} f h (x ∷ xs) = ap (λ (z : List B). h (f x) ∷ z) (map_both f h xs)

-- what is given by elements without their spots is what they give, without its spots
pub flat_bare : {A B : Type 0} (f : A → List B) (own : A → A) (given : B → B) → ((x : A) → f (own x) ≡ map given (f x)) → (xs : List A) → flat_map f (map own xs) ≡ map given (flat_map f xs)
flat_bare f own given same [] = refl
flat_bare {A} {B} f own given same (x ∷ xs) =
    ap₂ (λ (ys zs : List B). ys ++ zs) (same x) (flat_bare f own given same xs) ∙ sym (map-append given (f x) (flat_map f xs))

pub map_bare : {A B : Type 0} (f : A → B) (own : A → A) (given : B → B) → ((x : A) → f (own x) ≡ given (f x)) → (xs : List A) → map f (map own xs) ≡ map given (map f xs)
map_bare f own given same [] = refl
map_bare {A} {B} f own given same (x ∷ xs) = ap₂ (λ (y : B) (ys : List B). y ∷ ys) (same x) (map_bare f own given same xs)

-- ---- numbers in a list

pub below_length : (xs : List ℕ) (v : ℕ) → In v xs → number_in xs v < length xs
below_length [] v h = absurd h
below_length (x ∷ xs) v h = go (nat_eq x v) refl (λ k. below_length xs v k)
  where
    in_rest : nat_eq x v ≡ false → (v ≡ x) ⊎ In v xs → In v xs
    in_rest e (inl s) = absurd (let bad : nat_eq x v ≡ true = grind (arith, nat_tests) in cc)
    in_rest e (inr k) = k

    go : (b : Bool) → nat_eq x v ≡ b → (In v xs → number_in xs v < length xs) → cond b 0 (suc (number_in xs v)) < suc (length xs)
    go true e ih = omega arith
    go false e ih = let k = ih (in_rest e h) in omega arith

-- ---- places in a list without repetitions

pub same_number : (a : ℕ) → nat_eq a a ≡ true
same_number a = grind (arith, nat_tests)

shifted : (x : ℕ) (xs vs : List ℕ) → ((v : ℕ) → In v vs → x ≡ v → ⊥) → map (number_in (x ∷ xs)) vs ≡ map suc (map (number_in xs) vs)
shifted x xs [] h = refl
shifted x xs (v ∷ vs) h = go (nat_eq x v) refl (shifted x xs vs (λ w k. h w (inr k)))
  where
    go : (b : Bool) → nat_eq x v ≡ b → map (number_in (x ∷ xs)) vs ≡ map suc (map (number_in xs) vs) → cond b 0 (suc (number_in xs v)) ∷ map (number_in (x ∷ xs)) vs ≡ suc (number_in xs v) ∷ map suc (map (number_in xs) vs)
    go true e ih = absurd (h v (inl refl) (eqb-true x v e))
    go false e ih = ap (λ (z : List ℕ). suc (number_in xs v) ∷ z) ih

later : (a n : ℕ) → map suc (range_with_len a n) ≡ range_with_len (a + 1) n
later a zero = refl
later a (suc n) = ap₂ (λ (k : ℕ) (z : List ℕ). k ∷ z) (let k : suc a ≡ a + 1 = omega arith in k) (later (a + 1) n)

pub places : (xs : List ℕ) → Different xs → map (number_in xs) xs ≡ range_with_len 0 (length xs)
places [] h = refl
places (x ∷ xs) h =
    let first : number_in (x ∷ xs) x ≡ 0 = rw (same_number x) refl in
    let rest = shifted x xs xs (λ v k e. h.0 (in_same v x xs (sym e) k)) ∙ ap (map suc) (places xs h.1) ∙ later 0 (length xs) in
    ap₂ (λ (k : ℕ) (z : List ℕ). k ∷ z) first rest
  where
    in_same : (v x : ℕ) (ys : List ℕ) → v ≡ x → In v ys → In x ys
    in_same v x ys e k = subst (λ (w : ℕ). In w ys) e k

-- ---- a list of typed values

-- a value that stands in it has a type
pub type_there : (ts : List (ℕ × Ty)) (v : ℕ) → In v (map (λ x. x.0) ts) → IsSome (type_in ts v)
type_there [] v h = absurd h
type_there (x ∷ ts) v h = go (nat_eq x.0 v) refl h (λ k. type_there ts v k)
  where
    differ : (a b : ℕ) → nat_eq a b ≡ false → b ≡ a → ⊥
    differ a b e k = absurd (let bad : nat_eq a b ≡ true = grind (arith, nat_tests) in cc)

    go : (b : Bool) → nat_eq x.0 v ≡ b → (v ≡ x.0) ⊎ In v (map (λ y. y.0) ts) → (In v (map (λ y. y.0) ts) → is_some (type_in ts v) ≡ true) → is_some (cond {A = Option Ty} b (Some x.1) (type_in ts v)) ≡ true
    go true e h ih = refl
    go false e (inl k) ih = absurd (differ x.0 v e k)
    go false e (inr k) ih = ih k
