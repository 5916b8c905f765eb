-- The numbers of constants and immediates are read as the values that they write.
use Rattle.std.proofs.Common.{◌≡◌, ℕ, suc, ◌*◌, lit≤, subst, ◌-◌, ◌%◌, ◌^◌, ◌<◌, ◌≤◌, Bool, true, false, refl, sym, ap, ap₂, ◌∙◌, arith, inl, inr}
use Rattle.std.specs.Prelude.{ℤ, pos, negsuc, neg_ℤ, ◌≤ℤ◌, ◌<ℤ◌}
use Rattle.std.proofs.Math.Nat.{mod-eq_of_lt}
use Rattle.std.proofs.lemmas.Int.{ints}
use Rattle.std.proofs.lemmas.Bool.Decides.{leb_tells}
use Rattle.clk_num.specs.Numbers.{signed, wrapped}
use Rattle.clk_num.specs.Operations.{DataValue}
use Rattle.clk_num.specs.Width.{bits_of}
use Rattle.clk_num.specs.declared.op.Op.{Op}
use Rattle.clk_num.specs.declared.width.Width.{Width}
use Rattle.clk_num.specs.declared.width.Width.TheVariants.{W8, W16, W32, W64, W128}
use Rattle.clk_num.proofs.Numbers.{signed_low, signed_high, complement_mod}
use Rattle.ir_core.specs.Lookup.{ty_of}
use Rattle.ir_core.specs.Forms.{ValueInRange}
use Rattle.ir_text.specs.Writable.{by_zeros, SignedWithin, ImmediateWithin, ImmediateWritable, WhereWidest}
use Rattle.ir_semantics.proofs.SafetyTypes.{width_ty}
use Rattle.clif_meaning.proofs.NumberLaws.{wrapped_below}
use Rattle.clif_meaning.specs.Instructions as says

-- what is read as signed is the value again, modulo the width
signed_back : (b v : ℕ) → v < 2 ^ b → wrapped b (signed b v) ≡ v
unfolding wrapped
signed_back b v h = elim (leb_tells (2 ^ (b - 1)) v) [
  | inl t ↦ (let k = t.1 in let small : 2 ^ b - 1 - v < 2 ^ b = omega arith in
      rw (signed_high b v k h, mod-eq_of_lt small) (omega arith))
  | inr f ↦ (let k = f.1 in rw (signed_low b v k) (mod-eq_of_lt h))
]

abbrev datum : Width → ℕ → DataValue
datum w v = record { width = w; value = v }

pub constant_back : (d : DataValue) → ValueInRange d → says.constant (ty_of d.width) (signed (bits_of d.width) d.value) ≡ d
constant_back d h = ap₂ datum (width_ty d.width) (ap (λ (w : Width). wrapped (bits_of w) (signed (bits_of d.width) d.value)) (width_ty d.width) ∙ signed_back (bits_of d.width) d.value h)

-- ---- immediates: a form keeps 64 bits of its number

-- a value of up to 64 bits
module _ (b v m : ℕ) (h : v < 2 ^ b) (all : 2 ^ 64 ≡ m * 2 ^ b) (some : 0 < 2 ^ b) (few : 2 ^ b ≤ 2 ^ 64) where
  from_top : (j : ℕ) → j < 2 ^ 64 → (2 ^ 64 - 1 - j) % 2 ^ b ≡ 2 ^ b - 1 - j % 2 ^ b
  from_top j lt =
      let e : 2 ^ 64 - 1 - j ≡ m * 2 ^ b - suc j = omega arith in
      let below : j < m * 2 ^ b = omega arith in
      ap (λ (x : ℕ). x % 2 ^ b) e ∙ complement_mod m (2 ^ b) j some below

  kept_64 : wrapped 64 (signed b v) % 2 ^ b ≡ v
  unfolding wrapped
  kept_64 = elim (leb_tells (2 ^ (b - 1)) v) [
    | inl t ↦ (let k = t.1 in let small : 2 ^ b - 1 - v < 2 ^ 64 = omega arith in let less : 2 ^ b - 1 - v < 2 ^ b = omega arith in
        rw (signed_high b v k h, mod-eq_of_lt small) (from_top (2 ^ b - 1 - v) small ∙ rw (mod-eq_of_lt less) (omega arith)))
    | inr f ↦ (let k = f.1 in let small : v < 2 ^ 64 = omega arith in rw (signed_low b v k, mod-eq_of_lt small) (mod-eq_of_lt h))
  ]

  -- the sign of 64 bits changes nothing below
  signed_64 : (k : ℕ) → k < 2 ^ 64 → wrapped b (signed 64 k) ≡ k % 2 ^ b
  unfolding wrapped
  signed_64 k g = elim (leb_tells (2 ^ 63) k) [
    | inl t ↦ (let l = t.1 in let back : 2 ^ 64 - 1 - (2 ^ 64 - 1 - k) ≡ k = omega arith in
        rw (signed_high 64 k l g) (sym (from_top (2 ^ 64 - 1 - k) (omega arith)) ∙ ap (λ (x : ℕ). x % 2 ^ b) back))
    | inr f ↦ (let l = f.1 in rw (signed_low 64 k l) refl)
  ]

  narrow_back : (zeros : Bool) → wrapped b (says.extended zeros (wrapped 64 (signed b v))) ≡ v
  unfolding wrapped
  narrow_back true = kept_64
  narrow_back false = signed_64 (wrapped 64 (signed b v)) (wrapped_below 64 (signed b v)) ∙ kept_64

wide_zeros : (v : ℕ) → v < 2 ^ 64 → wrapped 128 (pos (wrapped 64 (signed 128 v))) ≡ v
unfolding wrapped
wide_zeros v h =
    let low : v < 2 ^ 127 = omega arith in let wide : v < 2 ^ 128 = omega arith in
    rw (signed_low 128 v low, mod-eq_of_lt h) (mod-eq_of_lt wide)

wide_low : (v : ℕ) → v < 2 ^ 63 → wrapped 128 (signed 64 (v % 2 ^ 64)) ≡ v
unfolding wrapped
wide_low v h =
    let small : v < 2 ^ 64 = omega arith in let wide : v < 2 ^ 128 = omega arith in
    rw (mod-eq_of_lt small, signed_low 64 v h) (mod-eq_of_lt wide)

wide_high : (v j : ℕ) → j < 2 ^ 63 → j ≡ 2 ^ 128 - 1 - v → v < 2 ^ 128 → wrapped 128 (signed 64 (2 ^ 64 - 1 - j % 2 ^ 64)) ≡ v
unfolding wrapped
wide_high v j h e g =
    let small : j < 2 ^ 64 = omega arith in let wide : j < 2 ^ 128 = omega arith in
    let high : 2 ^ 63 ≤ 2 ^ 64 - 1 - j = omega arith in let below : 2 ^ 64 - 1 - j < 2 ^ 64 = omega arith in
    let back : 2 ^ 64 - 1 - (2 ^ 64 - 1 - j) ≡ j = omega arith in
    rw (mod-eq_of_lt small, signed_high 64 (2 ^ 64 - 1 - j) high below, back, mod-eq_of_lt wide) (omega arith)

below_neg : (j : ℕ) → neg_ℤ (pos (2 ^ 63)) ≤ℤ negsuc j → j < 2 ^ 63
below_neg j h = omega (arith, ints)

below_pos : (j : ℕ) → pos j <ℤ pos (2 ^ 63) → j < 2 ^ 63
below_pos j h = omega (arith, ints)

wide_signed : (v : ℕ) → v < 2 ^ 128 → SignedWithin 63 v → wrapped 128 (signed 64 (wrapped 64 (signed 128 v))) ≡ v
unfolding wrapped
wide_signed v h k = elim (leb_tells (2 ^ 127) v) [
  | inl t ↦ (let l = t.1 in let z = signed_high 128 v l h in
      rw z (wide_high v (2 ^ 128 - 1 - v) (below_neg (2 ^ 128 - 1 - v) (subst (λ (y : ℤ). neg_ℤ (pos (2 ^ 63)) ≤ℤ y) z k.0)) refl h))
  | inr f ↦ (let l = f.1 in let z = signed_low 128 v l in
      rw z (wide_low v (below_pos v (subst (λ (y : ℤ). y <ℤ pos (2 ^ 63)) z k.1))))
]

immediate_at : (w : Width) (zeros : Bool) (v : ℕ) → v < 2 ^ bits_of w → WhereWidest w (ImmediateWithin zeros v) → wrapped (bits_of w) (says.extended zeros (wrapped 64 (signed (bits_of w) v))) ≡ v
immediate_at W8 zeros v h k = narrow_back 8 v (2 ^ 56) h refl (lit≤ tt) (lit≤ tt) zeros
immediate_at W16 zeros v h k = narrow_back 16 v (2 ^ 48) h refl (lit≤ tt) (lit≤ tt) zeros
immediate_at W32 zeros v h k = narrow_back 32 v (2 ^ 32) h refl (lit≤ tt) (lit≤ tt) zeros
immediate_at W64 zeros v h k = narrow_back 64 v 1 h refl (lit≤ tt) (lit≤ tt) zeros
immediate_at W128 true v h k = wide_zeros v k
immediate_at W128 false v h k = wide_signed v h k

pub immediate_back : (o : Op) (d : DataValue) → ImmediateWritable o d → says.immediate o (ty_of d.width) (signed (bits_of d.width) d.value) ≡ d
immediate_back o d h =
    ap₂ datum (width_ty d.width)
    (ap (λ (w : Width). wrapped (bits_of w) (says.extended (by_zeros o) (wrapped 64 (signed (bits_of d.width) d.value)))) (width_ty d.width) ∙ immediate_at d.width (by_zeros o) d.value h.0 h.1)
