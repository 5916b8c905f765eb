-- What the code's sums, products and comparisons give, against the table of operations.
use Rattle.std.proofs.Common.{◌≡◌, ℕ, suc, ◌+◌, ◌-◌, ◌*◌, ◌/◌, ◌%◌, ◌^◌, ◌<◌, ◌≤◌, Bool, true, false, ℤ, ◌-ℤ◌, ◌+ℤ◌, ◌*ℤ◌, refl, sym, ◌∙◌, ap, ap₂, subst, arith, lit<, lit≤, ltb, FitsSigned, to_z, of_z, to_z-of_z, not}
use Rattle.std.specs.Int.{w128}
use Rattle.std.specs.Int.RustNames.{unsigned_abs, int_lt}
use lib.Signed.{mag, nat_abs-le, shr_z}
use Rattle.std.proofs.Math.Pow.{mod-mod-pow}
use Rattle.std.proofs.Math.Nat.{mod-eq_of_lt, mul-add-mod_self_right}
use Rattle.std.proofs.lemmas.Int.{fits_signed_mul}
use Rattle.std.proofs.lemmas.Nat.{pow_pos}
use Rattle.std.proofs.lemmas.Bool.Decides.{nat_tests}
use Rattle.clk_num.specs.declared.width.Width.{Width}
use Rattle.clk_num.specs.declared.width.Width.TheVariants.{W8, W16, W32, W64, W128}
use Rattle.clk_num.specs.Width.{bits_of}
use Rattle.clk_num.specs.Numbers.{signed, wrapped, fits_signed}
use Rattle.clk_num.specs.Operations.{value_of, iadd, isub, imul, ineg, iabs, smin, smax, umin, umax, umulhi, smulhi, uadd_overflows, sadd_overflows, usub_overflows, ssub_overflows}
use Rattle.clk_num.proofs.Numbers.{power_halves, multiple_of, power_divides, signed_low, signed_high, signed_mag, read_both, read_result, fits_widest, shifted_is}

-- a value is told by its width and its number
pub value_is : (t u : Width) (n m : ℕ) → t ≡ u → n ≡ m → value_of t n ≡ value_of u m
value_is t u n m e f = cc

-- a number cut to 128 bits, and then to a width
pub mod_whole : (t : Width) (n : ℕ) → n % 2 ^ 128 % 2 ^ bits_of t ≡ n % 2 ^ bits_of t
mod_whole W8 n = mod-mod-pow n 120 8
mod_whole W16 n = mod-mod-pow n 112 16
mod_whole W32 n = mod-mod-pow n 96 32
mod_whole W64 n = mod-mod-pow n 64 64
mod_whole W128 n = mod-mod-pow n 0 128

pub iadd_is : (t : Width) (x y : ℕ) → (x + y) % 2 ^ 128 % 2 ^ bits_of t ≡ iadd (bits_of t) x y
unfolding iadd
iadd_is t x y = mod_whole t (x + y)

pub imul_is : (t : Width) (x y : ℕ) → x * y % 2 ^ 128 % 2 ^ bits_of t ≡ imul (bits_of t) x y
unfolding imul
imul_is t x y = mod_whole t (x * y)

-- less y, in 128 bits and in a width that holds y
difference_cut : (t : Width) (x y : ℕ) → y < 2 ^ bits_of t → (x + (2 ^ 128 - y)) % 2 ^ 128 % 2 ^ bits_of t ≡ (x + 2 ^ bits_of t - y) % 2 ^ bits_of t
difference_cut t x y h =
    let m : ℕ = multiple_of t in
    let p : ℕ = 2 ^ bits_of t in
    let whole : 2 ^ 128 ≡ m * p = power_divides t in
    let some : 0 < m = pow_pos (128 - bits_of t) in
    let d : ℕ = m - 1 in
    let split : m ≡ suc d = omega arith in
    let product : m * p ≡ d * p + p = omega (arith, ap (λ (x : ℕ). x * p) split) in
    let e : x + (2 ^ 128 - y) ≡ d * p + (x + p - y) = omega arith in
    mod_whole t (x + (2 ^ 128 - y)) ∙ ap (λ (n : ℕ). n % p) e ∙ mul-add-mod_self_right d p (x + p - y)

pub isub_is : (t : Width) (x y : ℕ) → y < 2 ^ bits_of t → (x + (2 ^ 128 - y)) % 2 ^ 128 % 2 ^ bits_of t ≡ isub (bits_of t) x y
unfolding isub
isub_is t x y h = difference_cut t x y h

pub ineg_is : (t : Width) (y : ℕ) → y < 2 ^ bits_of t → (0 + (2 ^ 128 - y)) % 2 ^ 128 % 2 ^ bits_of t ≡ ineg (bits_of t) y
unfolding ineg
ineg_is t y h =
    let e : 0 + 2 ^ bits_of t - y ≡ 2 ^ bits_of t - y = omega arith in
    difference_cut t 0 y h ∙ ap (λ (n : ℕ). n % 2 ^ bits_of t) e

pub iabs_low : (t : Width) (x g : ℕ) → g ≡ 2 ^ (bits_of t - 1) - 1 → x ≤ g → x ≡ iabs (bits_of t) x
unfolding iabs
iabs_low t x g e h =
    let p = pow_pos (bits_of t - 1) in
    let low : x < 2 ^ (bits_of t - 1) = omega arith in
    sym (ap unsigned_abs (signed_low (bits_of t) x low))

pub iabs_high : (t : Width) (x g : ℕ) → g ≡ 2 ^ (bits_of t - 1) - 1 → g < x → x < 2 ^ bits_of t → ineg (bits_of t) x ≡ iabs (bits_of t) x
unfolding iabs ineg
iabs_high t x g e h k =
    let p = pow_pos (bits_of t - 1) in
    let high : 2 ^ (bits_of t - 1) ≤ x = omega arith in
    let less : 2 ^ bits_of t - x < 2 ^ bits_of t = omega arith in
    let suc_is : 2 ^ bits_of t - x ≡ suc (2 ^ bits_of t - 1 - x) = omega arith in
    mod-eq_of_lt less ∙ suc_is ∙ sym (ap unsigned_abs (signed_high (bits_of t) x high k))

-- ---- the lesser and the greater

pub umin_second : (w x y : ℕ) → y < x → y ≡ umin w x y
unfolding umin
umin_second w x y h = omega arith

pub umin_first : (w x y : ℕ) → x ≤ y → x ≡ umin w x y
unfolding umin
umin_first w x y h = omega arith

pub umax_second : (w x y : ℕ) → x < y → y ≡ umax w x y
unfolding umax
umax_second w x y h = omega arith

pub umax_first : (w x y : ℕ) → y ≤ x → x ≡ umax w x y
unfolding umax
umax_first w x y h = omega arith

-- the code's comparison of two values of one type, as that of their signed readings
pub signed_test : (f : ℤ → ℤ → Bool) (t u : Width) (x y : ℕ) (a b : ℤ) → t ≡ u → mag a < 2 ^ 127 → mag b < 2 ^ 127
    → a ≡ signed (bits_of t) x → b ≡ signed (bits_of u) y
    → f (to_z w128 (of_z w128 a)) (to_z w128 (of_z w128 b)) ≡ f (signed (bits_of t) x) (signed (bits_of t) y)
signed_test f t u x y a b e h k d g = read_both f a b _ _ h k d (g ∙ ap (λ (t : Width). signed (bits_of t) y) (sym e))

-- the same of a sum or a difference
pub signed_result : (f : ℤ → ℤ → ℤ) (t u : Width) (x y : ℕ) (a b : ℤ) → t ≡ u → mag a < 2 ^ 127 → mag b < 2 ^ 127
    → a ≡ signed (bits_of t) x → b ≡ signed (bits_of u) y
    → f (to_z w128 (of_z w128 a)) (to_z w128 (of_z w128 b)) ≡ f (signed (bits_of t) x) (signed (bits_of t) y)
signed_result f t u x y a b e h k d g = read_both f a b _ _ h k d (g ∙ ap (λ (t : Width). signed (bits_of t) y) (sym e))

pub smin_second : (w x y : ℕ) → int_lt (signed w y) (signed w x) ≡ true → y ≡ smin w x y
unfolding smin
smin_second w x y h = rw h refl

pub smin_first : (w x y : ℕ) → int_lt (signed w y) (signed w x) ≡ false → x ≡ smin w x y
unfolding smin
smin_first w x y h = rw h refl

pub smax_second : (w x y : ℕ) → int_lt (signed w x) (signed w y) ≡ true → y ≡ smax w x y
unfolding smax
smax_second w x y h = rw h refl

pub smax_first : (w x y : ℕ) → int_lt (signed w x) (signed w y) ≡ false → x ≡ smax w x y
unfolding smax
smax_first w x y h = rw h refl

-- ---- the upper halves

power_64 : (t : Width) → bits_of t ≤ 64 → 2 ^ bits_of t ≤ 2 ^ 64
power_64 W8 h = lit≤ tt
power_64 W16 h = lit≤ tt
power_64 W32 h = lit≤ tt
power_64 W64 h = lit≤ tt
power_64 W128 h = absurd (omega arith)

pub umulhi_is : (t : Width) (x y k : ℕ) → k ≡ bits_of t → x * y / 2 ^ k ≡ umulhi (bits_of t) x y
unfolding umulhi
umulhi_is t x y k e = ap (λ (k : ℕ). x * y / 2 ^ k) e

half_power_64 : (t : Width) → bits_of t ≤ 64 → 2 ^ (bits_of t - 1) ≤ 2 ^ 63
half_power_64 t n = let bound = power_64 t n in let halves = power_halves t in omega arith

-- so has the signed product
pub signed_product_fits : (t u : Width) (x y : ℕ) (a b : ℤ) → t ≡ u → bits_of t ≤ 64 → x < 2 ^ bits_of t → y < 2 ^ bits_of u
    → a ≡ signed (bits_of t) x → b ≡ signed (bits_of u) y → FitsSigned w128 (a *ℤ b)
signed_product_fits t u x y a b e n h k d g =
    let bound = half_power_64 t n in
    let bound' = half_power_64 u (subst (λ (t : Width). bits_of t ≤ 64) e n) in
    let p : mag a < 2 ^ (bits_of t - 1) = rw d (signed_mag t x h) in
    let q : mag b < 2 ^ (bits_of u - 1) = rw g (signed_mag u y k) in
    let p' : mag a < 2 ^ 63 = omega arith in
    let q' : mag b < 2 ^ 63 = omega arith in
    fits_signed_mul w128 a b (2 ^ 63) (2 ^ 63) (nat_abs-le a p') (nat_abs-le b q') (lit< tt)

pub smulhi_is : (t u : Width) (x y : ℕ) (a b : ℤ) (k : ℕ) → t ≡ u → bits_of t ≤ 64 → x < 2 ^ bits_of t → y < 2 ^ bits_of u
    → mag a < 2 ^ 127 → mag b < 2 ^ 127 → a ≡ signed (bits_of t) x → b ≡ signed (bits_of u) y → k ≡ bits_of t
    → wrapped (bits_of t) (to_z w128 (of_z w128 (shr_z (to_z w128 (of_z w128 (to_z w128 (of_z w128 a) *ℤ to_z w128 (of_z w128 b)))) (2 ^ k))))
    ≡ smulhi (bits_of t) x y
unfolding smulhi
smulhi_is t u x y a b k e n h i p q d g f =
    let g' : b ≡ signed (bits_of t) y = g ∙ ap (λ (t : Width). signed (bits_of t) y) (sym e) in
    let fits = subst (λ (z : ℤ). FitsSigned w128 z) (ap₂ ◌*ℤ◌ d g') (signed_product_fits t u x y a b e n h i d g) in
    let product = read_result ◌*ℤ◌ a b (signed (bits_of t) x) (signed (bits_of t) y) p q d g' fits in
    ap (λ (z : ℤ). wrapped (bits_of t) (to_z w128 (of_z w128 (shr_z z (2 ^ k))))) product
    ∙ ap (λ (k : ℕ). wrapped (bits_of t) (to_z w128 (of_z w128 (shr_z (signed (bits_of t) x *ℤ signed (bits_of t) y) (2 ^ k))))) f
    ∙ ap (wrapped (bits_of t)) (shifted_is (signed (bits_of t) x *ℤ signed (bits_of t) y) (2 ^ bits_of t) fits.sfits)

-- ---- overflow

pub uadd_overflows_is : (t : Width) (x y g : ℕ) → x < 2 ^ bits_of t → g ≡ 2 ^ bits_of t - 1 → ltb (g - x) y ≡ uadd_overflows (bits_of t) x y
unfolding uadd_overflows
uadd_overflows_is t x y g h e = grind (arith, nat_tests)

pub usub_overflows_is : (w x y : ℕ) → ltb x y ≡ usub_overflows w x y
unfolding usub_overflows
usub_overflows_is w x y = refl

-- an exact result that is an i128, tested against the range
pub tested : (t : Width) (z s : ℤ) (r : Bool) → FitsSigned w128 z → s ≡ z → r ≡ fits_signed (bits_of t) (to_z w128 (of_z w128 s))
    → not r ≡ not (fits_signed (bits_of t) z)
tested t z s r f e d = ap not (d ∙ ap (λ (z : ℤ). fits_signed (bits_of t) (to_z w128 (of_z w128 z))) e ∙ ap (fits_signed (bits_of t)) (to_z-of_z f))

-- one that is no i128 is outside
pub outside : (t : Width) (z : ℤ) → (FitsSigned w128 z → ⊥) → true ≡ not (fits_signed (bits_of t) z)
outside t z unfit = go (fits_signed (bits_of t) z) refl
  where
    go : (b : Bool) → fits_signed (bits_of t) z ≡ b → true ≡ not (fits_signed (bits_of t) z)
    go true e = absurd (unfit (fits_widest t z e))
    go false e = rw e refl

pub sadd_tested : (t : Width) (x y : ℕ) (r : Bool) → r ≡ not (fits_signed (bits_of t) (signed (bits_of t) x +ℤ signed (bits_of t) y)) → r ≡ sadd_overflows (bits_of t) x y
unfolding sadd_overflows
sadd_tested t x y r e = e

pub ssub_tested : (t : Width) (x y : ℕ) (r : Bool) → r ≡ not (fits_signed (bits_of t) (signed (bits_of t) x -ℤ signed (bits_of t) y)) → r ≡ ssub_overflows (bits_of t) x y
unfolding ssub_overflows
ssub_tested t x y r e = e
