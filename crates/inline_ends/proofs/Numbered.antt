-- Numbers one behind the other.
use Rattle.std.proofs.Common.{◌≡◌, ℕ, suc, ◌+◌, ◌≤◌, List, [], ◌∷◌, length, refl, ap, arith}
use Rattle.ir_core.specs.Lists.{Below}
use Rattle.ir_core.specs.Lookup.{block_numbers}
use Rattle.inline_body.specs.WithBody.{empty_from}
use Rattle.inline_ends.specs.Ending.{numbered}

pub numbered_length : {A : Type 0} (n : ℕ) (xs : List A) → length (numbered n xs) ≡ length xs
numbered_length n [] = refl
numbered_length n (x ∷ xs) = ap suc (numbered_length (n + 1) xs)

pub below_end : {A : Type 0} (n m : ℕ) (xs : List A) → n + length xs ≤ m → Below m (numbered n xs)
below_end n m [] h = tt
below_end n m (x ∷ xs) h = (omega (arith, h), below_end (n + 1) m xs (omega (arith, h)))

pub of_empty : {A : Type 0} (n : ℕ) (xs : List A) (pss : List (List ℕ)) → length xs ≡ length pss → numbered n xs ≡ block_numbers (empty_from n pss)
of_empty n [] [] e = refl
of_empty n [] (ps ∷ pss) e = absurd (omega (arith, e))
of_empty n (x ∷ xs) [] e = absurd (omega (arith, e))
of_empty n (x ∷ xs) (ps ∷ pss) e = ap (λ (z : List ℕ). n ∷ z) (of_empty (n + 1) xs pss (omega (arith, e)))

-- the numbers that the blocks of a body get as they are put
pub as_put : {A : Type 0} (n : ℕ) (xs : List A) (pss : List (List ℕ)) → length xs ≡ suc (length pss) → numbered n xs ≡ n ∷ block_numbers (empty_from (n + 1) pss)
as_put n [] pss e = absurd (omega (arith, e))
as_put n (x ∷ xs) pss e = ap (λ (z : List ℕ). n ∷ z) (of_empty (n + 1) xs pss (omega (arith, e)))

pub other_list : {A B : Type 0} (n : ℕ) (xs : List A) (ys : List B) → length xs ≡ length ys → numbered n xs ≡ numbered n ys
other_list n [] [] e = refl
other_list n [] (y ∷ ys) e = absurd (omega (arith, e))
other_list n (x ∷ xs) [] e = absurd (omega (arith, e))
other_list n (x ∷ xs) (y ∷ ys) e = ap (λ (z : List ℕ). n ∷ z) (other_list (n + 1) xs ys (omega (arith, e)))
