-- What digits write is no less than what was written before them.
use Rattle.std.proofs.Common.{◌≡◌, ℕ, zero, suc, ◌+◌, ◌-◌, ◌*◌, ◌^◌, ◌<◌, ◌≤◌, nat_le, nat_lt, pos, neg_ℤ, refl, Bool, true, false, ◌==◌, cond, List, [], ◌∷◌, arith}
use Rattle.std.proofs.Math.Nat.{mul-le-mul_left}
use Rattle.std.specs.Char.{digit_value}
use Rattle.std.proofs.lemmas.Bool.{le-leb, leb-true, ltb-true}
use Rattle.clif_lex.specs.Bytes.{underscore, minus, first}
use Rattle.clif_lex.specs.Numbers.{amount_after, unsigned, magnitude, spelled_number, is_in_range, is_wide}

pub le-amount_after : (radix n : ℕ) (digits : List ℕ) → 1 ≤ radix → n ≤ amount_after radix n digits
le-amount_after radix n [] some = omega arith
le-amount_after radix n (c ∷ cs) some =
    elim (c == underscore) as (λ (b : Bool). n ≤ cond b (amount_after radix n cs) (amount_after radix (n * radix + digit_value c) cs)) [
      | true ↦ le-amount_after radix n cs some
      | false ↦ grind (arith, le-amount_after radix (n * radix + digit_value c) cs some, more n radix (digit_value c) some)
    ]
  where
    more : (n r d : ℕ) → 1 ≤ r → n ≤ n * r + d
    more n r d some = omega (arith, mul-le-mul_left n some)

-- a number in the range of 64 bits spells such a number

wide_below : (value : ℕ) → value < 2 ^ 64 → is_wide (pos value) ≡ true
wide_below value below = le-leb value (2 ^ 64 - 1) (omega arith)

wide_above : (value : ℕ) → value ≤ 2 ^ 63 → is_wide (neg_ℤ (pos value)) ≡ true
wide_above zero above = refl
wide_above (suc n) above = rw (le-leb n (2 ^ 63 - 1) (omega arith)) refl

pub wide : (text : List ℕ) → is_in_range text ≡ true → is_wide (spelled_number text) ≡ true
wide text = go (first text == minus)
  where
    go : (b : Bool) → cond b (nat_le (magnitude (unsigned text)) (2 ^ 63)) (nat_lt (magnitude (unsigned text)) (2 ^ 64)) ≡ true → is_wide (cond b (neg_ℤ (pos (magnitude (unsigned text)))) (pos (magnitude (unsigned text)))) ≡ true
    go true h = wide_above (magnitude (unsigned text)) (leb-true (magnitude (unsigned text)) (2 ^ 63) h)
    go false h = wide_below (magnitude (unsigned text)) (ltb-true (magnitude (unsigned text)) (2 ^ 64) h)
