-- What the code's divisions give, against the table of operations.
use Rattle.std.proofs.Common.{◌≡◌, ◌≢◌, ℕ, zero, suc, ◌+◌, ◌-◌, ◌*◌, ◌/◌, ◌%◌, ◌^◌, ◌<◌, ◌≤◌, Bool, true, false, ℤ, pos, negsuc, neg_ℤ, refl, sym, ◌∙◌, ap, ap₂, subst, arith, to_z, of_z, eqb, ◌&&◌, Option, Some, None, inl, inr, FitsSigned, add-one, [], ◌∷◌}
use Rattle.std.specs.Int.{w128}
use Rattle.std.specs.Int.RustNames.{int_div, int_rem, unsigned_abs}
use Rattle.std.proofs.Math.Nat.{mod-eq_of_lt, div-le_self, mod-le}
use lib.Signed.{mag, mag_rem}
use Rattle.std.proofs.lemmas.Nat.{pow_pos, div_below}
use Rattle.std.proofs.lemmas.Bool.Decides.{nat_tests}
use Rattle.clk_num.specs.declared.op.TrapCode.{TrapCode}
use Rattle.clk_num.specs.declared.op.TrapCode.TheVariants.{IntDivz, IntOvf}
use Rattle.clk_num.specs.declared.width.Width.{Width}
use Rattle.clk_num.specs.Width.{bits_of}
use Rattle.clk_num.specs.Numbers.{signed, wrapped, quotient, remainder}
use Rattle.clk_num.specs.Operations.{Evaluation, Traps, Values, DataValue, trap_or, divides_by_zero, sdiv_trap, udiv, urem, sdiv, srem}
use Rattle.clk_num.proofs.Numbers.{read_back, read_both, signed_cases, signed_mag, half_power_le, power_halves}

-- ---- traps

pub trapped : (o : Option TrapCode) (code : TrapCode) (e : Evaluation) → o ≡ Some code → Traps code ≡ trap_or o e
trapped o code e h = ap (λ (o : Option TrapCode). trap_or o e) (sym h)

pub passed : (o : Option TrapCode) (v u : DataValue) → o ≡ None → v ≡ u → Values (v ∷ []) ≡ trap_or o (Values (u ∷ []))
passed o v u h e = ap (λ (v : DataValue). Values (v ∷ [])) e ∙ ap (λ (o : Option TrapCode). trap_or o (Values (u ∷ []))) (sym h)

pub by_zero : (w x y : ℕ) → y ≡ 0 → divides_by_zero w x y ≡ Some IntDivz
unfolding divides_by_zero
by_zero w x y h = let e : eqb y 0 ≡ true = grind (arith, nat_tests) in rw e refl

pub by_other : (w x y : ℕ) → y ≢ 0 → divides_by_zero w x y ≡ None
unfolding divides_by_zero
by_other w x y h = let e : eqb y 0 ≡ false = grind (arith, nat_tests) in rw e refl

pub signed_by_zero : (w x y : ℕ) → y ≡ 0 → sdiv_trap w x y ≡ Some IntDivz
unfolding sdiv_trap
signed_by_zero w x y h = let e : eqb y 0 ≡ true = grind (arith, nat_tests) in rw e refl

pub least_by_minus_one : (t : Width) (x y g s : ℕ) → y ≢ 0 → g ≡ 2 ^ bits_of t - 1 → s ≡ 2 ^ (bits_of t - 1) - 1 → y ≡ g → x ≡ s + 1
    → sdiv_trap (bits_of t) x y ≡ Some IntOvf
unfolding sdiv_trap
least_by_minus_one t x y g s h e f d b =
    let p = pow_pos (bits_of t - 1) in
    let other : eqb y 0 ≡ false = grind (arith, nat_tests) in
    let least : eqb x (2 ^ (bits_of t - 1)) ≡ true = grind (arith, nat_tests) in
    let minus_one : eqb y (2 ^ bits_of t - 1) ≡ true = grind (arith, nat_tests) in
    rw (other, least, minus_one) refl

-- ---- unsigned

pub udiv_is : (t : Width) (x y : ℕ) → x < 2 ^ bits_of t → x / y % 2 ^ bits_of t ≡ udiv (bits_of t) x y
unfolding udiv
udiv_is t x y h = let le = div-le_self x y in let small : x / y < 2 ^ bits_of t = omega arith in mod-eq_of_lt small

pub urem_is : (t : Width) (x y : ℕ) → x < 2 ^ bits_of t → x % y % 2 ^ bits_of t ≡ urem (bits_of t) x y
unfolding urem
urem_is t x y h = let le = mod-le x y in let small : x % y < 2 ^ bits_of t = omega arith in mod-eq_of_lt small

-- ---- signed

-- the machine's quotient and remainder
quotient_is : (x y : ℤ) → int_div x y ≡ quotient x y
unfolding quotient
quotient_is (pos a) (pos b) = refl
quotient_is (pos a) (negsuc b) = ap (λ (n : ℕ). neg_ℤ (pos (a / n))) (sym (add-one b))
quotient_is (negsuc a) (pos b) = ap (λ (n : ℕ). neg_ℤ (pos (n / b))) (sym (add-one a))
quotient_is (negsuc a) (negsuc b) = ap₂ (λ (m n : ℕ). pos (m / n)) (sym (add-one a)) (sym (add-one b))

remainder_is : (x y : ℤ) → int_rem x y ≡ remainder x y
unfolding remainder
remainder_is (pos a) y = refl
remainder_is (negsuc a) y = ap (λ (n : ℕ). neg_ℤ (pos (n % unsigned_abs y))) (sym (add-one a))

-- the magnitude of a number below 0
mag_negated : (r h : ℕ) → 0 < h → r ≤ h → mag (neg_ℤ (pos r)) < h
mag_negated zero h p le = p
mag_negated (suc r) h p le = omega arith

-- the reading of a divisor is not 0
pub not_zero : (t : Width) (y : ℕ) (d : ℤ) → y < 2 ^ bits_of t → y ≢ 0 → d ≡ signed (bits_of t) y → 0 < of_z w128 d
not_zero t y d h n e = elim (signed_cases t y h) [
  | inl (low, is) ↦ rw (e ∙ is) (omega arith)
  | inr (high, is, small) ↦ let bound = half_power_le t in rw (e ∙ is) (omega arith)
]

-- The quotient fits the width, but for that of the least value by -1
quotient_mag : (t : Width) (x y : ℕ) → x < 2 ^ bits_of t → y < 2 ^ bits_of t → y ≢ 0
    → ((y ≡ 2 ^ bits_of t - 1) × (x ≡ 2 ^ (bits_of t - 1)) → ⊥)
    → mag (int_div (signed (bits_of t) x) (signed (bits_of t) y)) < 2 ^ (bits_of t - 1)
quotient_mag t x y h k n apart = elim (signed_cases t x h) [
  | inl (low, is) ↦ elim (signed_cases t y k) [
    | inl (low', is') ↦
        let le = div-le_self x y in
        let small : x / y < 2 ^ (bits_of t - 1) = omega arith in
        rw (is, is') small
    | inr (high', is', small') ↦
        let le = div-le_self x (suc (2 ^ bits_of t - 1 - y)) in
        let p = pow_pos (bits_of t - 1) in
        rw (is, is') (mag_negated (x / suc (2 ^ bits_of t - 1 - y)) (2 ^ (bits_of t - 1)) p (omega arith))
  ]
  | inr (high, is, small) ↦ elim (signed_cases t y k) [
    | inl (low', is') ↦
        let le = div-le_self (suc (2 ^ bits_of t - 1 - x)) y in
        let p = pow_pos (bits_of t - 1) in
        rw (is, is') (mag_negated (suc (2 ^ bits_of t - 1 - x) / y) (2 ^ (bits_of t - 1)) p (omega arith))
    | inr (high', is', small') ↦ rw (is, is') (both_negative (2 ^ bits_of t - 1 - x) (2 ^ bits_of t - 1 - y) small
        (λ one. let halves = power_halves t in
        let rest : (2 ^ bits_of t - 1 - x) ≢ 2 ^ (bits_of t - 1) - 1 = (λ e. apart (omega arith, omega arith)) in
        omega arith))
  ]
]
  where
    both_negative : (m n : ℕ) → m < 2 ^ (bits_of t - 1) → (n ≡ 0 → suc m < 2 ^ (bits_of t - 1)) → suc m / suc n < 2 ^ (bits_of t - 1)
    both_negative m zero h k = let le = div-le_self (suc m) 1 in let less = k refl in omega arith
    both_negative m (suc n) h k =
        div_below (suc m) (suc (suc n)) (2 ^ (bits_of t - 1)) (omega arith)
        (let p = pow_pos (bits_of t - 1) in
        let twice : 2 ^ (bits_of t - 1) * 2 ≤ 2 ^ (bits_of t - 1) * suc (suc n) = grind arith in
        omega arith)

-- the code's two tests tell it apart
pub apart_by_x : (t : Width) (x y s : ℕ) → s ≡ 2 ^ (bits_of t - 1) - 1 → x ≢ s + 1 → (y ≡ 2 ^ bits_of t - 1) × (x ≡ 2 ^ (bits_of t - 1)) → ⊥
apart_by_x t x y s e n (minus_one, least) = let p = pow_pos (bits_of t - 1) in n (omega arith)

pub apart_by_y : (t : Width) (x y g : ℕ) → g ≡ 2 ^ bits_of t - 1 → y ≢ g → (y ≡ 2 ^ bits_of t - 1) × (x ≡ 2 ^ (bits_of t - 1)) → ⊥
apart_by_y t x y g e n (minus_one, least) = n (omega arith)

pub sdiv_passes : (t : Width) (x y : ℕ) → y ≢ 0 → ((y ≡ 2 ^ bits_of t - 1) × (x ≡ 2 ^ (bits_of t - 1)) → ⊥) → sdiv_trap (bits_of t) x y ≡ None
unfolding sdiv_trap
sdiv_passes t x y n apart =
    let other : eqb y 0 ≡ false = grind (arith, nat_tests) in
    let both : (eqb x (2 ^ (bits_of t - 1)) && eqb y (2 ^ bits_of t - 1)) ≡ false =
    go (eqb x (2 ^ (bits_of t - 1))) (eqb y (2 ^ bits_of t - 1)) refl refl in
    rw (other, both) refl
  where
    go : (a b : Bool) → eqb x (2 ^ (bits_of t - 1)) ≡ a → eqb y (2 ^ bits_of t - 1) ≡ b → (a && b) ≡ false
    go false b e d = refl
    go true false e d = refl
    go true true e d =
        let least : x ≡ 2 ^ (bits_of t - 1) = grind (arith, nat_tests) in
        let minus_one : y ≡ 2 ^ bits_of t - 1 = grind (arith, nat_tests) in
        absurd (apart (minus_one, least))

module _ (t u : Width) (x y : ℕ) (a d : ℤ) (same : t ≡ u) (low : mag a < 2 ^ 127) (low' : mag d < 2 ^ 127)
    (is : a ≡ signed (bits_of t) x) (is' : d ≡ signed (bits_of u) y) (range : x < 2 ^ bits_of t) (range' : y < 2 ^ bits_of u) (some : y ≢ 0) where
  in_first : y < 2 ^ bits_of t
  in_first = subst (λ (t : Width). y < 2 ^ bits_of t) (sym same) range'

  read_divisor : d ≡ signed (bits_of t) y
  read_divisor = is' ∙ ap (λ (t : Width). signed (bits_of t) y) (sym same)

  pub divisor_not_zero : 0 < of_z w128 d
  divisor_not_zero = not_zero t y d in_first some read_divisor

  pub divisor_not_zero_again : 0 < of_z w128 (to_z w128 (of_z w128 d))
  divisor_not_zero_again = rw (read_back d low') divisor_not_zero

  module _ (apart : (y ≡ 2 ^ bits_of t - 1) × (x ≡ 2 ^ (bits_of t - 1)) → ⊥) where
    quotient_small : mag (int_div (signed (bits_of t) x) (signed (bits_of t) y)) < 2 ^ 127
    quotient_small =
        let bound = half_power_le t in
        let small = quotient_mag t x y range in_first some apart in
        omega arith

    pub quotient_fits : FitsSigned w128 (int_div (to_z w128 (of_z w128 a)) (to_z w128 (of_z w128 d)))
    quotient_fits = rw (read_both int_div a d _ _ low low' is read_divisor) record { sfits = quotient_small }

    pub sdiv_is : wrapped (bits_of t) (to_z w128 (of_z w128 (int_div (to_z w128 (of_z w128 a)) (to_z w128 (of_z w128 d))))) ≡ sdiv (bits_of t) x y
    unfolding sdiv
    sdiv_is =
        ap (λ (z : ℤ). wrapped (bits_of t) (to_z w128 (of_z w128 z))) (read_both int_div a d _ _ low low' is read_divisor)
        ∙ ap (wrapped (bits_of t)) (read_back (int_div (signed (bits_of t) x) (signed (bits_of t) y)) quotient_small
        ∙ quotient_is (signed (bits_of t) x) (signed (bits_of t) y))

  remainder_small : mag (int_rem (signed (bits_of t) x) (signed (bits_of t) y)) < 2 ^ 127
  remainder_small =
      let bound = half_power_le t in
      let small = signed_mag t x range in
      let le = mag_rem (signed (bits_of t) x) (signed (bits_of t) y) in
      omega arith

  pub srem_is : (r : ℤ) → r ≡ int_rem (to_z w128 (of_z w128 a)) (to_z w128 (of_z w128 d))
      → wrapped (bits_of t) (to_z w128 (of_z w128 r)) ≡ srem (bits_of t) x y
  unfolding srem
  srem_is r e =
      ap (λ (z : ℤ). wrapped (bits_of t) (to_z w128 (of_z w128 z))) (e ∙ read_both int_rem a d _ _ low low' is read_divisor)
      ∙ ap (wrapped (bits_of t)) (read_back (int_rem (signed (bits_of t) x) (signed (bits_of t) y)) remainder_small
      ∙ remainder_is (signed (bits_of t) x) (signed (bits_of t) y))
