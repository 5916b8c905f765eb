-- Facts on the reading of naturals as signed numbers, and on integers modulo a power of two.
use Rattle.std.proofs.Common.{◌≡◌, ℕ, suc, ◌+◌, ◌-◌, ◌*◌, ◌/◌, ◌%◌, ◌^◌, ◌<◌, ◌≤◌, true, false, ℤ, pos, negsuc, ◌-ℤ◌, neg_ℤ, refl, sym, ◌∙◌, ap, ap₂, subst, arith, lit≤, ltb, inl, inr, ◌⊎◌, FitsSigned, to_z, of_z, to_z-of_z, leb, ◌&&◌}
use Rattle.std.specs.Int.RustNames.{unsigned_abs, int_lt as lt_z, int_le}
use lib.Signed.{mag, shr_z, mag_shr}
use Rattle.std.proofs.Math.Nat.{mod-eq_of_lt}
use Rattle.std.specs.Int.{w128}
use Rattle.std.proofs.lemmas.Int.{ints, to_z_pos}
use Rattle.std.proofs.lemmas.Nat.{pow_pos, div_below, mod-mul-add, mod_below, div-add-mod'}
use Rattle.std.proofs.lemmas.Bool.Decides.{nat_tests}
use Rattle.std.proofs.lemmas.Bool.{cases_lt}
use Rattle.clk_num.specs.declared.width.Width.{Width}
use Rattle.clk_num.specs.declared.width.Width.TheVariants.{W8, W16, W32, W64, W128}
use Rattle.clk_num.specs.Width.{bits_of}
use Rattle.clk_num.specs.Numbers.{signed, wrapped, fits, fits_signed, floored}

-- two to the power of a width is twice the power below it
pub power_halves : (t : Width) → 2 ^ bits_of t ≡ 2 * 2 ^ (bits_of t - 1)
power_halves W8 = refl
power_halves W16 = refl
power_halves W32 = refl
power_halves W64 = refl
power_halves W128 = refl

-- the powers of the widths are those of i128 at most
pub half_power_le : (t : Width) → 2 ^ (bits_of t - 1) ≤ 2 ^ 127
half_power_le W8 = lit≤ tt
half_power_le W16 = lit≤ tt
half_power_le W32 = lit≤ tt
half_power_le W64 = lit≤ tt
half_power_le W128 = lit≤ tt

-- how often the power goes into that of the widest type
abbrev pub multiple_of : Width → ℕ
multiple_of t = 2 ^ (128 - bits_of t)

pub power_divides : (t : Width) → 2 ^ 128 ≡ multiple_of t * 2 ^ bits_of t
power_divides W8 = refl
power_divides W16 = refl
power_divides W32 = refl
power_divides W64 = refl
power_divides W128 = refl

-- ---- the signed reading

-- a number below half the power reads as itself
pub signed_low : (w n : ℕ) → n < 2 ^ (w - 1) → signed w n ≡ pos n
unfolding signed
signed_low w n h = let e : ltb n (2 ^ (w - 1)) ≡ true = grind (arith, nat_tests) in rw e refl

-- another reads as itself less the power
pub signed_high : (w n : ℕ) → 2 ^ (w - 1) ≤ n → n < 2 ^ w → signed w n ≡ negsuc (2 ^ w - 1 - n)
unfolding signed
signed_high w n h k =
    let e : ltb n (2 ^ (w - 1)) ≡ false = grind (arith, nat_tests) in
    let less : (pos n -ℤ pos (2 ^ w)) ≡ negsuc (2 ^ w - 1 - n) = omega (arith, ints) in
    rw e less

-- the two readings, by the highest bit
pub signed_cases : (t : Width) (n : ℕ) → n < 2 ^ bits_of t
    → ((n < 2 ^ (bits_of t - 1)) × (signed (bits_of t) n ≡ pos n))
    ⊎ ((2 ^ (bits_of t - 1) ≤ n) × (signed (bits_of t) n ≡ negsuc (2 ^ bits_of t - 1 - n)) × (2 ^ bits_of t - 1 - n < 2 ^ (bits_of t - 1)))
signed_cases t n h = elim (cases_lt n (2 ^ (bits_of t - 1))) [
  | inl low ↦ inl (low, signed_low (bits_of t) n low)
  | inr high ↦ inr (high, signed_high (bits_of t) n high h, (let e = power_halves t in omega arith))
]

-- what the code reads is the signed reading
pub read_low : (t : Width) (n g : ℕ) → g ≡ 2 ^ (bits_of t - 1) - 1 → n ≤ g → to_z w128 n ≡ signed (bits_of t) n
read_low t n g e h =
    let p = pow_pos (bits_of t - 1) in
    let low : n < 2 ^ (bits_of t - 1) = omega arith in
    let bound = half_power_le t in
    to_z_pos w128 n (omega arith) ∙ sym (signed_low (bits_of t) n low)

pub read_high : (t : Width) (n g m : ℕ) → g ≡ 2 ^ (bits_of t - 1) - 1 → m ≡ 2 ^ bits_of t - 1 → g < n → n < 2 ^ bits_of t
    → to_z w128 (of_z w128 (negsuc 0 -ℤ to_z w128 (m - n))) ≡ signed (bits_of t) n
read_high t n g m e f h k =
    let p = pow_pos (bits_of t - 1) in
    let halves = power_halves t in
    let high : 2 ^ (bits_of t - 1) ≤ n = omega arith in
    let bound = half_power_le t in
    let small : m - n < 2 ^ 127 = omega arith in
    let is : to_z w128 (m - n) ≡ pos (m - n) = to_z_pos w128 (m - n) small in
    let value : (negsuc 0 -ℤ pos (m - n)) ≡ negsuc (m - n) = omega (arith, ints) in
    let fits : FitsSigned w128 (negsuc (m - n)) = record { sfits = small } in
    rw (is, value) (to_z-of_z fits ∙ ap (λ (x : ℕ). negsuc (x - n)) f ∙ sym (signed_high (bits_of t) n high k))

-- ---- modulo a power

-- the complement of n, modulo p, where the whole is a multiple of p
pub complement_mod : (m p n : ℕ) → 0 < p → n < m * p → (m * p - suc n) % p ≡ p - 1 - n % p
complement_mod m p n h k =
    let q : ℕ = n / p in
    let r : ℕ = n % p in
    let split : q * p + r ≡ n = div-add-mod' n p in
    let below : q < m = div_below n p m h k in
    let rest : r < p = mod_below n p h in
    let d : ℕ = m - suc q in
    let whole : m ≡ suc q + d = omega arith in
    let e : m * p - suc n ≡ d * p + (p - 1 - r) = omega (arith, ap (λ (x : ℕ). x * p) whole) in
    rw e (mod-mul-add d p (p - 1 - r) (omega arith))

-- an integer of the code, cut to the width
pub cut_is : (t : Width) (z : ℤ) → FitsSigned w128 z → of_z w128 z % 2 ^ bits_of t ≡ wrapped (bits_of t) z
unfolding wrapped
cut_is t (pos n) f = refl
cut_is t (negsuc n) f =
    let small : n < 2 ^ 127 = f.sfits in
    let e = power_divides t in
    let below : n < multiple_of t * 2 ^ bits_of t = omega arith in
    rw e (complement_mod (multiple_of t) (2 ^ bits_of t) n (pow_pos (bits_of t)) below)

pub cut_from_code : (t : Width) (z : ℤ) (n : ℕ) → FitsSigned w128 z → n ≡ of_z w128 (to_z w128 (of_z w128 z))
    → n % 2 ^ bits_of t ≡ wrapped (bits_of t) z
cut_from_code t z n f e =
    ap (λ (x : ℕ). x % 2 ^ bits_of t) (e ∙ ap (of_z w128) (to_z-of_z f)) ∙ cut_is t z f

-- ---- which numbers fit

-- a negative number in the code, and its complement
pub complement_of : (z : ℤ) → FitsSigned w128 z → lt_z (to_z w128 (of_z w128 z)) (pos 0) ≡ true
    → (n : ℕ) × (z ≡ negsuc n) × (unsigned_abs (to_z w128 (of_z w128 (negsuc 0 -ℤ to_z w128 (of_z w128 z)))) ≡ n)
complement_of (pos n) f h =
    let e : ltb n 0 ≡ true = ap (λ (z : ℤ). lt_z z (pos 0)) (sym (to_z-of_z f)) ∙ h in
    absurd (grind (arith, nat_tests))
complement_of (negsuc n) f h =
    let small : n < 2 ^ 127 = f.sfits in
    let value : (negsuc 0 -ℤ negsuc n) ≡ pos n = omega (arith, ints) in
    let fits : FitsSigned w128 (pos n) = record { sfits = small } in (
      n,
      refl,
      ap (λ (z : ℤ). unsigned_abs (to_z w128 (of_z w128 (negsuc 0 -ℤ z)))) (to_z-of_z f)
          ∙ ap (λ (z : ℤ). unsigned_abs (to_z w128 (of_z w128 z))) value ∙ ap unsigned_abs (to_z-of_z fits),
    )

-- another number in the code
pub number_of : (z : ℤ) → FitsSigned w128 z → lt_z (to_z w128 (of_z w128 z)) (pos 0) ≡ false
    → (n : ℕ) × (z ≡ pos n) × (unsigned_abs (to_z w128 (of_z w128 z)) ≡ n)
number_of (pos n) f h = (n, refl, ap unsigned_abs (to_z-of_z f))
number_of (negsuc n) f h =
    let e : true ≡ false = ap (λ (z : ℤ). lt_z z (pos 0)) (sym (to_z-of_z f)) ∙ h in
    absurd cc

pub fits_negative : (t : Width) (n : ℕ) → fits (bits_of t) (negsuc n) ≡ ltb n (2 ^ (bits_of t - 1))
unfolding fits
fits_negative t n =
    let p = pow_pos (bits_of t - 1) in
    let least : neg_ℤ (pos (2 ^ (bits_of t - 1))) ≡ negsuc (2 ^ (bits_of t - 1) - 1) = omega (arith, ints) in
    let test : (leb n (2 ^ (bits_of t - 1) - 1) && true) ≡ ltb n (2 ^ (bits_of t - 1)) = grind (arith, nat_tests) in
    rw least test

pub fits_positive : (t : Width) (n : ℕ) → fits (bits_of t) (pos n) ≡ ltb n (2 ^ bits_of t)
unfolding fits
fits_positive t n =
    let p = pow_pos (bits_of t - 1) in
    let least : neg_ℤ (pos (2 ^ (bits_of t - 1))) ≡ negsuc (2 ^ (bits_of t - 1) - 1) = omega (arith, ints) in
    rw least refl

pub negative_fits : (t : Width) (z : ℤ) (g k : ℕ) → FitsSigned w128 z → lt_z (to_z w128 (of_z w128 z)) (pos 0) ≡ true
    → k ≡ unsigned_abs (to_z w128 (of_z w128 (negsuc 0 -ℤ to_z w128 (of_z w128 z)))) → g ≡ 2 ^ (bits_of t - 1) - 1 → k ≤ g
    → true ≡ fits (bits_of t) z
negative_fits t z g k f neg e d h =
    let (n, is, c) = complement_of z f neg in
    let p = pow_pos (bits_of t - 1) in
    let small : n < 2 ^ (bits_of t - 1) = omega (arith, e ∙ c) in
    let test : ltb n (2 ^ (bits_of t - 1)) ≡ true = grind (arith, nat_tests) in
    rw is (sym (fits_negative t n ∙ test))

pub negative_passes : (t : Width) (z : ℤ) (g k : ℕ) → FitsSigned w128 z → lt_z (to_z w128 (of_z w128 z)) (pos 0) ≡ true
    → k ≡ unsigned_abs (to_z w128 (of_z w128 (negsuc 0 -ℤ to_z w128 (of_z w128 z)))) → g ≡ 2 ^ (bits_of t - 1) - 1 → g < k
    → false ≡ fits (bits_of t) z
negative_passes t z g k f neg e d h =
    let (n, is, c) = complement_of z f neg in
    let large : 2 ^ (bits_of t - 1) ≤ n = omega (arith, e ∙ c) in
    let test : ltb n (2 ^ (bits_of t - 1)) ≡ false = grind (arith, nat_tests) in
    rw is (sym (fits_negative t n ∙ test))

pub negative_value : (t : Width) (z : ℤ) (g k m : ℕ) → FitsSigned w128 z → lt_z (to_z w128 (of_z w128 z)) (pos 0) ≡ true
    → k ≡ unsigned_abs (to_z w128 (of_z w128 (negsuc 0 -ℤ to_z w128 (of_z w128 z)))) → g ≡ 2 ^ (bits_of t - 1) - 1 → k ≤ g
    → m ≡ 2 ^ bits_of t - 1 → m - k ≡ wrapped (bits_of t) z
unfolding wrapped
negative_value t z g k m f neg e d h w =
    let (n, is, c) = complement_of z f neg in
    let p = pow_pos (bits_of t - 1) in
    let halves = power_halves t in
    let small : n < 2 ^ bits_of t = omega (arith, e ∙ c) in
    let kept : n % 2 ^ bits_of t ≡ n = mod-eq_of_lt small in
    rw (is, kept) (ap (λ (x : ℕ). x - k) w ∙ ap (λ (x : ℕ). 2 ^ bits_of t - 1 - x) (e ∙ c))

pub positive_fits : (t : Width) (z : ℤ) (g k : ℕ) → FitsSigned w128 z → lt_z (to_z w128 (of_z w128 z)) (pos 0) ≡ false
    → k ≡ unsigned_abs (to_z w128 (of_z w128 z)) → g ≡ 2 ^ bits_of t - 1 → k ≤ g → true ≡ fits (bits_of t) z
positive_fits t z g k f neg e d h =
    let (n, is, c) = number_of z f neg in
    let p = pow_pos (bits_of t) in
    let small : n < 2 ^ bits_of t = omega (arith, e ∙ c) in
    let test : ltb n (2 ^ bits_of t) ≡ true = grind (arith, nat_tests) in
    rw is (sym (fits_positive t n ∙ test))

pub positive_passes : (t : Width) (z : ℤ) (g k : ℕ) → FitsSigned w128 z → lt_z (to_z w128 (of_z w128 z)) (pos 0) ≡ false
    → k ≡ unsigned_abs (to_z w128 (of_z w128 z)) → g ≡ 2 ^ bits_of t - 1 → g < k → false ≡ fits (bits_of t) z
positive_passes t z g k f neg e d h =
    let (n, is, c) = number_of z f neg in
    let large : 2 ^ bits_of t ≤ n = omega (arith, e ∙ c) in
    let test : ltb n (2 ^ bits_of t) ≡ false = grind (arith, nat_tests) in
    rw is (sym (fits_positive t n ∙ test))

pub positive_value : (t : Width) (z : ℤ) (g k : ℕ) → FitsSigned w128 z → lt_z (to_z w128 (of_z w128 z)) (pos 0) ≡ false
    → k ≡ unsigned_abs (to_z w128 (of_z w128 z)) → g ≡ 2 ^ bits_of t - 1 → k ≤ g → k ≡ wrapped (bits_of t) z
unfolding wrapped
positive_value t z g k f neg e d h =
    let (n, is, c) = number_of z f neg in
    let p = pow_pos (bits_of t) in
    let small : n < 2 ^ bits_of t = omega (arith, e ∙ c) in
    let kept : n % 2 ^ bits_of t ≡ n = mod-eq_of_lt small in
    rw (is, kept) (e ∙ c)

-- ---- the code's signed numbers: each is handed on as `to_z w128 (of_z w128 z)`

pub read_back : (z : ℤ) → mag z < 2 ^ 127 → to_z w128 (of_z w128 z) ≡ z
read_back z h = let f : FitsSigned w128 z = record { sfits = h } in to_z-of_z f

-- two of them in a test, or in any function
pub read_both : {A : Type 0} (f : ℤ → ℤ → A) (a b p q : ℤ) → mag a < 2 ^ 127 → mag b < 2 ^ 127 → a ≡ p → b ≡ q
    → f (to_z w128 (of_z w128 a)) (to_z w128 (of_z w128 b)) ≡ f p q
read_both f a b p q h k d e = ap₂ f (read_back a h ∙ d) (read_back b k ∙ e)

-- a result of two of them that fits
pub read_result : (f : ℤ → ℤ → ℤ) (a b p q : ℤ) → mag a < 2 ^ 127 → mag b < 2 ^ 127 → a ≡ p → b ≡ q
    → FitsSigned w128 (f p q) → to_z w128 (of_z w128 (f (to_z w128 (of_z w128 a)) (to_z w128 (of_z w128 b)))) ≡ f p q
read_result f a b p q h k d e fits = ap (λ (z : ℤ). to_z w128 (of_z w128 z)) (read_both f a b p q h k d e) ∙ to_z-of_z fits

-- the signed reading is in the range of the width
pub signed_mag : (t : Width) (n : ℕ) → n < 2 ^ bits_of t → mag (signed (bits_of t) n) < 2 ^ (bits_of t - 1)
signed_mag t n h = elim (signed_cases t n h) [
  | inl (low, is) ↦ rw is low
  | inr (high, is, small) ↦ rw is small
]

-- a number that fits a width is one whose magnitude is below half the power
pub fits_signed_mag : (t : Width) (z : ℤ) → fits_signed (bits_of t) z ≡ ltb (mag z) (2 ^ (bits_of t - 1))
unfolding fits_signed
fits_signed_mag t (pos n) =
    let p = pow_pos (bits_of t - 1) in
    let least : neg_ℤ (pos (2 ^ (bits_of t - 1))) ≡ negsuc (2 ^ (bits_of t - 1) - 1) = omega (arith, ints) in
    rw least refl
fits_signed_mag t (negsuc n) =
    let p = pow_pos (bits_of t - 1) in
    let least : neg_ℤ (pos (2 ^ (bits_of t - 1))) ≡ negsuc (2 ^ (bits_of t - 1) - 1) = omega (arith, ints) in
    let test : (leb n (2 ^ (bits_of t - 1) - 1) && true) ≡ ltb n (2 ^ (bits_of t - 1)) = grind (arith, nat_tests) in
    rw least test

-- and fits an i128
pub fits_widest : (t : Width) (z : ℤ) → fits_signed (bits_of t) z ≡ true → FitsSigned w128 z
fits_widest t z h =
    let test : ltb (mag z) (2 ^ (bits_of t - 1)) ≡ true = sym (fits_signed_mag t z) ∙ h in
    let small : mag z < 2 ^ (bits_of t - 1) = grind (arith, nat_tests) in
    let bound = half_power_le t in
    record { sfits = omega arith }

-- the code's least value of a width, where g is its greatest
least_of : (g : ℕ) → g < 2 ^ 127 → to_z w128 (of_z w128 (negsuc 0 -ℤ to_z w128 g)) ≡ negsuc g
least_of g h =
    let is : to_z w128 g ≡ pos g = to_z_pos w128 g h in
    let value : (negsuc 0 -ℤ pos g) ≡ negsuc g = omega (arith, ints) in
    rw (is, value) (read_back (negsuc g) h)

-- the code's test of the range, in its two parts
pub held_above : (t : Width) (z : ℤ) (g : ℕ) → g ≡ 2 ^ (bits_of t - 1) - 1 → FitsSigned w128 z
    → int_le (to_z w128 (of_z w128 (negsuc 0 -ℤ to_z w128 g))) (to_z w128 (of_z w128 z)) ≡ true
    → int_le (to_z w128 (of_z w128 z)) (to_z w128 g) ≡ fits_signed (bits_of t) z
held_above t z g e f h =
    let p = pow_pos (bits_of t - 1) in
    let bound = half_power_le t in
    let small : g < 2 ^ 127 = omega arith in
    let low : int_le (negsuc g) z ≡ true = ap₂ int_le (sym (least_of g small)) (sym (to_z-of_z f)) ∙ h in
    ap₂ int_le (to_z-of_z f) (to_z_pos w128 g small) ∙ held z low ∙ sym (fits_signed_mag t z)
  where
    held : (z : ℤ) → int_le (negsuc g) z ≡ true → int_le z (pos g) ≡ ltb (mag z) (2 ^ (bits_of t - 1))
    held (pos n) low = let p = pow_pos (bits_of t - 1) in let d = e in grind (arith, nat_tests)
    held (negsuc n) low = let p = pow_pos (bits_of t - 1) in let d = e in
        let under : leb n g ≡ true = low in
        let test : true ≡ ltb n (2 ^ (bits_of t - 1)) = grind (arith, nat_tests) in test

pub held_below : (t : Width) (z : ℤ) (g : ℕ) → g ≡ 2 ^ (bits_of t - 1) - 1 → FitsSigned w128 z
    → int_le (to_z w128 (of_z w128 (negsuc 0 -ℤ to_z w128 g))) (to_z w128 (of_z w128 z)) ≡ false
    → int_le (to_z w128 (of_z w128 (negsuc 0 -ℤ to_z w128 g))) (to_z w128 (of_z w128 z)) ≡ fits_signed (bits_of t) z
held_below t z g e f h =
    let p = pow_pos (bits_of t - 1) in
    let bound = half_power_le t in
    let small : g < 2 ^ 127 = omega arith in
    let low : int_le (negsuc g) z ≡ false = ap₂ int_le (sym (least_of g small)) (sym (to_z-of_z f)) ∙ h in
    h ∙ sym (held z low) ∙ sym (fits_signed_mag t z)
  where
    held : (z : ℤ) → int_le (negsuc g) z ≡ false → ltb (mag z) (2 ^ (bits_of t - 1)) ≡ false
    held (pos n) low = absurd cc
    held (negsuc n) low = let p = pow_pos (bits_of t - 1) in let d = e in
        let under : leb n g ≡ false = low in
        grind (arith, nat_tests)

-- the code's shift of a signed number rounds down
pub shifted_is : (z : ℤ) (m : ℕ) → mag z < 2 ^ 127 → to_z w128 (of_z w128 (shr_z z m)) ≡ floored z m
unfolding floored
shifted_is (pos n) m h = let d = mag_shr (pos n) m in read_back (pos (n / m)) (omega arith)
shifted_is (negsuc n) m h = let d = mag_shr (negsuc n) m in read_back (negsuc (n / m)) (omega arith)

-- the code passes over no number at the widest type
pub widest_negative : (t : Width) (z : ℤ) (g k : ℕ) → t ≡ W128 → FitsSigned w128 z → lt_z (to_z w128 (of_z w128 z)) (pos 0) ≡ true
    → k ≡ unsigned_abs (to_z w128 (of_z w128 (negsuc 0 -ℤ to_z w128 (of_z w128 z)))) → g ≡ 2 ^ (bits_of t - 1) - 1 → g < k → ⊥
widest_negative t z g k w f neg e d h =
    let (n, is, c) = complement_of z f neg in
    let small : n < 2 ^ 127 = subst (λ (z : ℤ). mag z < 2 ^ 127) is f.sfits in
    let greatest : g ≡ 2 ^ 127 - 1 = d ∙ ap (λ (t : Width). 2 ^ (bits_of t - 1) - 1) w in
    omega (arith, e ∙ c)

pub widest_positive : (t : Width) (z : ℤ) (g k : ℕ) → t ≡ W128 → FitsSigned w128 z → lt_z (to_z w128 (of_z w128 z)) (pos 0) ≡ false
    → k ≡ unsigned_abs (to_z w128 (of_z w128 z)) → g ≡ 2 ^ bits_of t - 1 → g < k → ⊥
widest_positive t z g k w f neg e d h =
    let (n, is, c) = number_of z f neg in
    let small : n < 2 ^ 127 = subst (λ (z : ℤ). mag z < 2 ^ 127) is f.sfits in
    let greatest : g ≡ 2 ^ 128 - 1 = d ∙ ap (λ (t : Width). 2 ^ bits_of t - 1) w in
    omega (arith, e ∙ c)
