-- What the code's shifts and rotations give, against the table of operations.
use Rattle.std.proofs.Common.{◌≡◌, ℕ, ◌+◌, ◌-◌, ◌*◌, ◌/◌, ◌%◌, ◌^◌, ◌<◌, ℤ, sym, ◌∙◌, ap, ap₂, subst, arith, to_z, of_z}
use Rattle.std.specs.Int.{w128}
use Rattle.std.proofs.Math.Nat.{mod-eq_of_lt, mul-mod_left, div-one}
use lib.Bits.{bit_or}
use lib.Signed.{mag, shr_z}
use Rattle.std.proofs.lemmas.Nat.{mod-pow-add, shl-shr, shr_below, shr_le, or_mod, or_shifted}
use Rattle.clk_num.specs.declared.width.Width.{Width}
use Rattle.clk_num.specs.Width.{bits_of}
use Rattle.clk_num.specs.Numbers.{signed, wrapped, floored}
use Rattle.clk_num.specs.Operations.{ishl, ushr, sshr, rotl, rotr}
use Rattle.clk_num.proofs.Numbers.{read_back, shifted_is}
use Rattle.clk_num.proofs.ArithmeticLemmas.{mod_whole}

pub ishl_is : (t : Width) (x y k : ℕ) → k ≡ y % bits_of t → x * 2 ^ k % 2 ^ 128 % 2 ^ bits_of t ≡ ishl (bits_of t) x y
unfolding ishl
ishl_is t x y k e = mod_whole t (x * 2 ^ k) ∙ ap (λ (k : ℕ). x * 2 ^ k % 2 ^ bits_of t) e

pub ushr_is : (t : Width) (x y k : ℕ) → k ≡ y % bits_of t → x / 2 ^ k ≡ ushr (bits_of t) x y
unfolding ushr
ushr_is t x y k e = ap (λ (k : ℕ). x / 2 ^ k) e

pub sshr_is : (t : Width) (x y k : ℕ) (z : ℤ) → mag z < 2 ^ 127 → z ≡ signed (bits_of t) x → k ≡ y % bits_of t
    → wrapped (bits_of t) (to_z w128 (of_z w128 (shr_z (to_z w128 (of_z w128 z)) (2 ^ k)))) ≡ sshr (bits_of t) x y
unfolding sshr
sshr_is t x y k z h e f =
    ap (λ (z : ℤ). wrapped (bits_of t) (to_z w128 (of_z w128 (shr_z z (2 ^ k))))) (read_back z h)
    ∙ ap (wrapped (bits_of t)) (shifted_is z (2 ^ k) h)
    ∙ ap₂ (λ (z : ℤ) (k : ℕ). wrapped (bits_of t) (floored z (2 ^ k))) e f

-- the two parts of a rotation share no bit
pub rotated_is : (t : Width) (x k b : ℕ) → x < 2 ^ bits_of t → k < bits_of t → b ≡ bits_of t
    → bit_or (x * 2 ^ k % 2 ^ 128) (x / 2 ^ (b - k)) % 2 ^ bits_of t ≡ x * 2 ^ k % 2 ^ bits_of t + x / 2 ^ (bits_of t - k)
rotated_is t x k b h below e =
    let w : ℕ = bits_of t in
    let d : ℕ = w - k in
    let sum : w ≡ d + k = omega arith in
    let turned : w ≡ k + d = omega arith in
    let upper : x * 2 ^ k % 2 ^ w ≡ (x % 2 ^ d) * 2 ^ k =
    ap (λ (n : ℕ). x * 2 ^ k % 2 ^ n) sum ∙ mod-pow-add (x * 2 ^ k) d k
    ∙ ap₂ (λ (m n : ℕ). (m % 2 ^ d) * 2 ^ k + n) (shl-shr x k) (mul-mod_left x (2 ^ k)) ∙ no_more ((x % 2 ^ d) * 2 ^ k) in
    let lower : x / 2 ^ d < 2 ^ k = shr_below x k d (subst (λ (n : ℕ). x < 2 ^ n) turned h) in
    let small : x / 2 ^ d < 2 ^ w = let le = shr_le x d in omega arith in
    ap (λ (b : ℕ). bit_or (x * 2 ^ k % 2 ^ 128) (x / 2 ^ (b - k)) % 2 ^ w) e
    ∙ or_mod (x * 2 ^ k % 2 ^ 128) (x / 2 ^ d) w
    ∙ ap₂ bit_or (mod_whole t (x * 2 ^ k) ∙ upper) (mod-eq_of_lt small)
    ∙ or_shifted (x % 2 ^ d) k (x / 2 ^ d) lower
    ∙ ap (λ (n : ℕ). n + x / 2 ^ d) (sym upper)
  where
    no_more : (n : ℕ) → n + 0 ≡ n
    no_more n = omega arith

pub rotl_is : (t : Width) (x y k : ℕ) → k ≡ y % bits_of t → x * 2 ^ k % 2 ^ bits_of t + x / 2 ^ (bits_of t - k) ≡ rotl (bits_of t) x y
unfolding rotl
rotl_is t x y k e = ap (λ (k : ℕ). x * 2 ^ k % 2 ^ bits_of t + x / 2 ^ (bits_of t - k)) e

pub rotr_is : (t : Width) (x y k b : ℕ) → k ≡ y % bits_of t → k < bits_of t → b ≡ bits_of t
    → x * 2 ^ (b - k) % 2 ^ bits_of t + x / 2 ^ (bits_of t - (b - k)) ≡ rotr (bits_of t) x y
unfolding rotr
rotr_is t x y k b e h f =
    let back : bits_of t - (bits_of t - k) ≡ k = omega arith in
    ap (λ (b : ℕ). x * 2 ^ (b - k) % 2 ^ bits_of t + x / 2 ^ (bits_of t - (b - k))) f
    ∙ ap (λ (n : ℕ). x * 2 ^ (bits_of t - k) % 2 ^ bits_of t + x / 2 ^ n) back
    ∙ turn (x * 2 ^ (bits_of t - k) % 2 ^ bits_of t) (x / 2 ^ k)
    ∙ ap (λ (k : ℕ). x / 2 ^ k + x * 2 ^ (bits_of t - k) % 2 ^ bits_of t) e
  where
    turn : (m n : ℕ) → m + n ≡ n + m
    turn m n = omega arith

pub rotr_none : (t : Width) (x y k : ℕ) → k ≡ y % bits_of t → k ≡ 0 → x ≡ rotr (bits_of t) x y
unfolding rotr
rotr_none t x y k e f =
    let whole : bits_of t - 0 ≡ bits_of t = omega arith in
    let none : x * 2 ^ (bits_of t - 0) % 2 ^ bits_of t ≡ 0 = rw whole (mul-mod_left x (2 ^ bits_of t)) in
    let one : x / 1 ≡ x = div-one x in
    let sum : x ≡ x / 1 + x * 2 ^ (bits_of t - 0) % 2 ^ bits_of t = omega arith in
    sum ∙ ap (λ (k : ℕ). x / 2 ^ k + x * 2 ^ (bits_of t - k) % 2 ^ bits_of t) (sym f ∙ e)
