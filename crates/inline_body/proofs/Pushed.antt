-- Lists that a loop has pushed to.
use Rattle.std.proofs.Common.{◌≡◌, ℕ, zero, suc, ◌+◌, List, [], ◌∷◌, ◌++◌, map, length, sym, ap, ◌∙◌, arith}
use Rattle.std.proofs.Common.{length-append}
use Rattle.std.proofs.lemmas.List.{map-append}
use Rattle.ir_semantics.specs.Splice.{from}

-- two lists of one length, with one element more each
pub longer : {A B : Type 0} (xs xs' : List A) (ys ys' : List B) (x : A) (y : B)
    → xs' ≡ xs ++ (x ∷ []) → ys' ≡ ys ++ (y ∷ []) → length xs ≡ length ys → length xs' ≡ length ys'
longer xs xs' ys ys' x y e g h =
    let p = ap length e ∙ length-append xs (x ∷ []) in
    let q = ap length g ∙ length-append ys (y ∷ []) in
    omega (arith, p, q, h)

from_more : (i n m : ℕ) → m ≡ i + n → from i (suc n) ≡ from i n ++ (m ∷ [])
from_more i zero m e = let q : i ≡ m = omega (arith, e) in ap (λ z. z ∷ []) q
from_more i (suc n) m e = ap (λ z. i ∷ z) (from_more (suc i) n m (omega (arith, e)))

-- what is made of the numbers below n, and then of n
pub made_of_numbers : {A : Type 0} (f : ℕ → A) (n m : ℕ) (xs ys : List A)
    → m ≡ suc n → xs ≡ map f (from 0 n) → ys ≡ xs ++ (f n ∷ []) → ys ≡ map f (from 0 m)
made_of_numbers f n m xs ys e h k =
    k
    ∙ (ap (λ z. z ++ (f n ∷ [])) h
    ∙ (sym (map-append f (from 0 n) (n ∷ []))
    ∙ (ap (map f) (sym (from_more 0 n n (omega arith))) ∙ ap (λ (z : ℕ). map f (from 0 z)) (sym e))))
