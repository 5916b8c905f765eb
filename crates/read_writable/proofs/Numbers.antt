-- Numbers that keep the limits of a text keep those of what is written.
use Rattle.std.proofs.Common.{◌≡◌, ℕ, ◌-◌, ◌^◌, ◌<◌, ◌≤◌, Bool, true, false, refl, sym, subst, arith, inl, inr}
use Rattle.std.specs.Prelude.{ℤ, pos, negsuc, neg_ℤ, ◌≤ℤ◌, ◌<ℤ◌}
use Rattle.std.proofs.Math.Nat.{mod-eq_of_lt}
use Rattle.std.proofs.lemmas.Int.{ints}
use Rattle.std.proofs.lemmas.Nat.{pow_pos}
use Rattle.std.proofs.lemmas.Bool.{and_parts, leb-true}
use Rattle.std.proofs.lemmas.Bool.Decides.{leb_tells}
use Rattle.clk_num.specs.Numbers.{signed, wrapped}
use Rattle.clk_num.specs.Width.{bits_of}
use Rattle.clk_num.specs.declared.op.Op.{Op}
use Rattle.clk_num.specs.declared.width.Width.{Width}
use Rattle.clk_num.specs.declared.width.Width.TheVariants.{W8, W16, W32, W64, W128}
use Rattle.clk_num.proofs.Numbers.{signed_low, signed_high}
use Rattle.ir_core.specs.declared.signatures.Ty.{Ty}
use Rattle.ir_core.specs.Lookup.{width_of}
use Rattle.ir_text.specs.Writable.{by_zeros, OffsetWritable, SignedWithin, ImmediateWithin, WhereWidest, ConstantWritable, ImmediateWritable}
use Rattle.clif_lex.specs.Numbers.{is_wide}
use Rattle.clif_names.specs.declared.limits.Limit.TheVariants.{Offset}
use Rattle.clif_names.specs.Limits.{within, keeps}
use Rattle.clif_meaning.specs.Instructions.{natural, constant, immediate, extended}
use Rattle.clif_meaning.proofs.NumberLaws.{wrapped_below}

-- ---- numbers from 0 on

pub at_most : (most : ℕ) (z : ℤ) → within (pos 0) (pos most) z ≡ true → natural z ≤ most
at_most most (pos n) h = leb-true n most (and_parts _ _ h).1
at_most most (negsuc n) h = absurd cc

-- ---- offsets

pub offset_writable : (z : ℤ) → keeps Offset z ≡ true → OffsetWritable z
offset_writable (pos n) h = let low = leb-true n 2147483647 h in (omega (arith, ints), omega (arith, low, ints))
offset_writable (negsuc n) h = let low = leb-true n 2147483647 (and_parts _ _ h).0 in (omega (arith, low, ints), omega (arith, ints))

-- ---- values of a width

-- a number of 64 bits is itself as a value of 128
back_positive : (n : ℕ) → n < 2 ^ 64 → signed 128 (wrapped 128 (pos n)) ≡ pos n
unfolding wrapped
back_positive n h = let low : n < 2 ^ 127 = omega arith in let wide : n < 2 ^ 128 = omega arith in rw (mod-eq_of_lt wide) (signed_low 128 n low)

back_negative : (n : ℕ) → n < 2 ^ 63 → signed 128 (wrapped 128 (negsuc n)) ≡ negsuc n
unfolding wrapped
back_negative n h =
    let wide : n < 2 ^ 128 = omega arith in
    let high : 2 ^ 127 ≤ 2 ^ 128 - 1 - n = omega arith in
    let below : 2 ^ 128 - 1 - n < 2 ^ 128 = omega arith in
    let back : 2 ^ 128 - 1 - (2 ^ 128 - 1 - n) ≡ n = omega arith in
    rw (mod-eq_of_lt wide, signed_high 128 (2 ^ 128 - 1 - n) high below, back) refl

abbrev Lies : ℕ → ℤ → Type 0
Lies bits z = (neg_ℤ (pos (2 ^ 63)) ≤ℤ z) × (z <ℤ pos (2 ^ bits))

within_by : (bits x : ℕ) (z : ℤ) → signed 128 x ≡ z → Lies bits z → SignedWithin bits x
within_by bits x z e h = subst (Lies bits) (sym e) h

positive_within : (bits n : ℕ) → n < 2 ^ 64 → n < 2 ^ bits → SignedWithin bits (wrapped 128 (pos n))
positive_within bits n h k = within_by bits (wrapped 128 (pos n)) (pos n) (back_positive n h) (omega (arith, ints), omega (arith, k, ints))

negative_within : (bits n : ℕ) → n < 2 ^ 63 → SignedWithin bits (wrapped 128 (negsuc n))
negative_within bits n h = within_by bits (wrapped 128 (negsuc n)) (negsuc n) (back_negative n h) (omega (arith, h, ints), (let some = pow_pos bits in omega (arith, some, ints)))

wide_within : (z : ℤ) → is_wide z ≡ true → SignedWithin 64 (wrapped 128 z)
wide_within (pos n) h = let most = leb-true n 18446744073709551615 h in let less : n < 2 ^ 64 = omega (arith, most) in positive_within 64 n less less
wide_within (negsuc n) h = let most = leb-true n 9223372036854775807 (and_parts _ _ h).0 in negative_within 64 n (omega (arith, most))

pub constant_writable : (t : Ty) (z : ℤ) → is_wide z ≡ true → ConstantWritable (constant t z)
constant_writable t z h = (wrapped_below (bits_of (width_of t)) z, widest (width_of t))
  where
    widest : (w : Width) → WhereWidest w (SignedWithin 64 (wrapped (bits_of w) z))
    widest W8 = tt
    widest W16 = tt
    widest W32 = tt
    widest W64 = tt
    widest W128 = wide_within z h

-- ---- immediates

extended_within : (zeros : Bool) (k : ℕ) → k < 2 ^ 64 → ImmediateWithin zeros (wrapped 128 (extended zeros k))
unfolding wrapped
extended_within true k h = let wide : k < 2 ^ 128 = omega arith in rw (mod-eq_of_lt wide) h
extended_within false k h = elim (leb_tells (2 ^ 63) k) [
  | inl t ↦ (let l = t.1 in let z = signed_high 64 k l h in subst (λ (y : ℤ). SignedWithin 63 (wrapped 128 y)) (sym z) (negative_within 63 (2 ^ 64 - 1 - k) (omega (arith, l, h))))
  | inr f ↦ (let l = f.1 in let z = signed_low 64 k l in subst (λ (y : ℤ). SignedWithin 63 (wrapped 128 y)) (sym z) (positive_within 63 k h l))
]

pub immediate_writable : (o : Op) (t : Ty) (z : ℤ) → ImmediateWritable o (immediate o t z)
immediate_writable o t z = (wrapped_below (bits_of (width_of t)) (extended (by_zeros o) (wrapped 64 z)), widest (width_of t))
  where
    widest : (w : Width) → WhereWidest w (ImmediateWithin (by_zeros o) (wrapped (bits_of w) (extended (by_zeros o) (wrapped 64 z))))
    widest W8 = tt
    widest W16 = tt
    widest W32 = tt
    widest W64 = tt
    widest W128 = extended_within (by_zeros o) (wrapped 64 z) (wrapped_below 64 z)
