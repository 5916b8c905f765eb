-- The value of digits, from left to right.
use Rattle.std.proofs.Common.{◌≡◌, ℕ, zero, suc, ◌+◌, ◌*◌, ◌-◌, ◌<◌, ◌≤◌, Bool, true, false, cond, ◌&&◌, nat_le, List, [], ◌∷◌, ◌++◌, take, Some, None, decimal, refl, sym, ap, ◌∙◌, arith}
use Rattle.std.specs.Str.{bytes_eq}
use Rattle.std.proofs.lemmas.Bool.{leb-true, leb-false}
use Rattle.test_directives.specs.Commands.{most_size, digits_value, size_of}

pub value_last : (n : ℕ) (xs : List ℕ) (x : ℕ) → digits_value n (xs ++ x ∷ []) ≡ 10 * digits_value n xs + (x - 48)
value_last n [] x = refl
value_last n (y ∷ ys) x = value_last (10 * n + (y - 48)) ys x

value_more : (n : ℕ) (xs : List ℕ) → n ≤ digits_value n xs
value_more n [] = omega arith
value_more n (x ∷ xs) = let h = value_more (10 * n + (x - 48)) xs in omega arith

value_on : (n i : ℕ) (xs : List ℕ) → digits_value n (take i xs) ≤ digits_value n xs
value_on n zero xs = value_more n xs
value_on n (suc i) [] = omega arith
value_on n (suc i) (x ∷ xs) = value_on (10 * n + (x - 48)) i xs

no_size : (b : Bool) (n : ℕ) → cond (b && false) (Some n) None ≡ None
no_size true n = refl
no_size false n = refl

a_size : (b : Bool) (n : ℕ) → cond (b && true) (Some n) None ≡ cond b (Some n) None
a_size true n = refl
a_size false n = refl

-- the digits of a size that is too large are none
pub too_large : (i : ℕ) (xs : List ℕ) → most_size < digits_value 0 (take i xs) → size_of xs ≡ None
too_large i xs less = go (nat_le (digits_value 0 xs) most_size) refl
  where
    go : (b : Bool) → nat_le (digits_value 0 xs) most_size ≡ b → size_of xs ≡ None
    go true e = absurd (let a = value_on 0 i xs in let l = leb-true (digits_value 0 xs) most_size e in omega arith)
    go false e = ap (λ (d : Bool). cond (bytes_eq (decimal (digits_value 0 xs)) xs && d) (Some (digits_value 0 xs)) None) e ∙ no_size (bytes_eq (decimal (digits_value 0 xs)) xs) (digits_value 0 xs)

pub size_is : (n : ℕ) (xs : List ℕ) (b : Bool) → n ≡ digits_value 0 xs → n ≤ most_size → bytes_eq (decimal n) xs ≡ b → size_of xs ≡ cond b (Some n) None
size_is n xs b e le same = go (nat_le (digits_value 0 xs) most_size) refl
  where
    go : (d : Bool) → nat_le (digits_value 0 xs) most_size ≡ d → size_of xs ≡ cond b (Some n) None
    go false h = absurd (let l = leb-false (digits_value 0 xs) most_size h in omega arith)
    go true h =
        (λ j. cond (bytes_eq (decimal (digits_value 0 xs)) xs && h j) (Some (digits_value 0 xs)) None)
        ∙ (ap (λ (k : ℕ). cond (bytes_eq (decimal k) xs && true) (Some k) None) (sym e)
        ∙ (ap (λ (d : Bool). cond (d && true) (Some n) None) same ∙ a_size b n))
