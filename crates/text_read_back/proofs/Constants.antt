-- The numbers of constants, immediates and offsets are numbers of 64 bits.
use Rattle.std.proofs.Common.{◌≡◌, ℕ, ◌+◌, ◌-◌, ◌^◌, ◌<◌, ◌≤◌, Bool, true, false, arith, inl, inr}
use Rattle.std.specs.Prelude.{ℤ, pos, negsuc, neg_ℤ, ◌≤ℤ◌, ◌<ℤ◌}
use Rattle.std.proofs.lemmas.Bool.{lt-ltb}
use Rattle.std.proofs.lemmas.Int.{ints}
use Rattle.std.proofs.lemmas.Bool.Decides.{leb_tells}
use Rattle.clk_num.specs.Numbers.{signed}
use Rattle.clk_num.specs.Operations.{DataValue}
use Rattle.clk_num.specs.Width.{bits_of}
use Rattle.clk_num.specs.declared.op.Op.{Op}
use Rattle.clk_num.specs.declared.width.Width.{Width}
use Rattle.clk_num.specs.declared.width.Width.TheVariants.{W8, W16, W32, W64, W128}
use Rattle.clk_num.proofs.Numbers.{signed_low, signed_high}
use Rattle.ir_text.specs.Writable.{by_zeros, SignedWithin, ImmediateWithin, ImmediateWritable, ConstantWritable, WhereWidest, OffsetWritable}
use Rattle.text_read_back.proofs.NumberTokens.{is_64_bits}

within : (z : ℤ) → neg_ℤ (pos (2 ^ 63)) ≤ℤ z → z <ℤ pos (2 ^ 64) → is_64_bits z ≡ true
within (pos n) low high = lt-ltb n (2 ^ 64) (omega (arith, ints))
within (negsuc n) low high = lt-ltb n (2 ^ 63) (omega (arith, ints))

pub offset_64_bits : (z : ℤ) → OffsetWritable z → is_64_bits z ≡ true
offset_64_bits (pos n) h = let low = h.0 in let high = h.1 in lt-ltb n (2 ^ 64) (omega (arith, ints))
offset_64_bits (negsuc n) h = let low = h.0 in let high = h.1 in lt-ltb n (2 ^ 63) (omega (arith, ints))

-- a number of up to 64 bits
module _ (bits v : ℕ) (h : v < 2 ^ bits) (few : 2 ^ bits ≤ 2 ^ 64) (half : 2 ^ bits ≤ 2 ^ 63 + 2 ^ (bits - 1)) where
  narrow : is_64_bits (signed bits v) ≡ true
  narrow = elim (leb_tells (2 ^ (bits - 1)) v) [
    | inl t ↦ (let k = t.1 in rw (signed_high bits v k h) (lt-ltb (2 ^ bits - 1 - v) (2 ^ 63) (omega arith)))
    | inr f ↦ (let k = f.1 in rw (signed_low bits v k) (lt-ltb v (2 ^ 64) (omega arith)))
  ]

constant_at : (w : Width) (v : ℕ) → v < 2 ^ bits_of w → WhereWidest w (SignedWithin 64 v) → is_64_bits (signed (bits_of w) v) ≡ true
constant_at W8 v h k = narrow 8 v h (omega arith) (omega arith)
constant_at W16 v h k = narrow 16 v h (omega arith) (omega arith)
constant_at W32 v h k = narrow 32 v h (omega arith) (omega arith)
constant_at W64 v h k = narrow 64 v h (omega arith) (omega arith)
constant_at W128 v h k = within (signed 128 v) k.0 k.1

pub constant_64_bits : (d : DataValue) → ConstantWritable d → is_64_bits (signed (bits_of d.width) d.value) ≡ true
constant_64_bits d h = constant_at d.width d.value h.0 h.1

below_63 : (z : ℤ) → z <ℤ pos (2 ^ 63) → z <ℤ pos (2 ^ 64)
below_63 z h = omega (arith, ints)

immediate_at : (w : Width) (zeros : Bool) (v : ℕ) → v < 2 ^ bits_of w → WhereWidest w (ImmediateWithin zeros v) → is_64_bits (signed (bits_of w) v) ≡ true
immediate_at W8 zeros v h k = narrow 8 v h (omega arith) (omega arith)
immediate_at W16 zeros v h k = narrow 16 v h (omega arith) (omega arith)
immediate_at W32 zeros v h k = narrow 32 v h (omega arith) (omega arith)
immediate_at W64 zeros v h k = narrow 64 v h (omega arith) (omega arith)
immediate_at W128 true v h k = rw (signed_low 128 v (omega arith)) (lt-ltb v (2 ^ 64) k)
immediate_at W128 false v h k = within (signed 128 v) k.0 (below_63 (signed 128 v) k.1)

pub immediate_64_bits : (o : Op) (d : DataValue) → ImmediateWritable o d → is_64_bits (signed (bits_of d.width) d.value) ≡ true
immediate_64_bits o d h = immediate_at d.width (by_zeros o) d.value h.0 h.1
