-- Worked examples of the table of operations.
use Rattle.std.specs.Prelude.{◌≡◌, ◌^◌, ◌-◌, ℕ, List, [], ◌∷◌}
use Rattle.clk_num.specs.declared.op.Op.{Op}
use Rattle.clk_num.specs.declared.op.Op.TheVariants.{Iadd, Isub, Imul, Band, Bor, Bxor, Smin, Smax, Umin, Umax, Umulhi}
use Rattle.clk_num.specs.declared.op.Op.TheVariants.{Smulhi, Udiv, Urem, Sdiv, Srem, Ineg, Bnot, Iabs, Clz, Ctz, Popcnt}
use Rattle.clk_num.specs.declared.op.Op.TheVariants.{Bitrev, Bswap, Ishl, Ushr, Sshr, Rotl, Rotr, Icmp, Select, Uextend}
use Rattle.clk_num.specs.declared.op.Op.TheVariants.{Sextend, Ireduce, UaddOverflow, SaddOverflow, UsubOverflow}
use Rattle.clk_num.specs.declared.op.Op.TheVariants.{SsubOverflow, Iconcat, Isplit}
use Rattle.clk_num.specs.declared.op.Cc.TheVariants.{Slt, Ult}
use Rattle.clk_num.specs.declared.op.TrapCode.TheVariants.{IntDivz, IntOvf}
use Rattle.clk_num.specs.declared.width.Width.TheVariants.{W8, W16, W32, W64, W128}
use Rattle.clk_num.specs.Operations.{DataValue, Values, Traps, NoRow, operation}

-- n as an i8, an i16, an i32, an i64 and an i128
abbrev pub i8 : ℕ → DataValue
i8 n = record { width = W8; value = n }

abbrev pub i16 : ℕ → DataValue
i16 n = record { width = W16; value = n }

abbrev pub i32 : ℕ → DataValue
i32 n = record { width = W32; value = n }

abbrev pub i64 : ℕ → DataValue
i64 n = record { width = W64; value = n }

abbrev pub i128 : ℕ → DataValue
i128 n = record { width = W128; value = n }

-- op on these operands gives this one value
abbrev pub Gives : Op → List DataValue → DataValue → Type 0
Gives op xs x = operation op xs ≡ Values (x ∷ [])

-- the least value by -1, and shifts by more than the width
pub record WorkedRows : Type 0 where
  pub sdiv_least : operation Sdiv (i8 128 ∷ i8 255 ∷ []) ≡ Traps IntOvf
  pub srem_least : Gives Srem (i8 128 ∷ i8 255 ∷ []) (i8 0)
  pub ishl_past : Gives Ishl (i8 3 ∷ i8 9 ∷ []) (i8 6)
  pub clz_zero : Gives Clz (i16 0 ∷ []) (i16 16)

-- arithmetic
pub record WorkedArithmetic : Type 0 where
  pub iadd_wraps : Gives Iadd (i8 200 ∷ i8 100 ∷ []) (i8 44)
  pub isub_wraps : Gives Isub (i128 0 ∷ i128 1 ∷ []) (i128 (2 ^ 128 - 1))
  pub imul_wraps : Gives Imul (i16 300 ∷ i16 300 ∷ []) (i16 24464)
  pub ineg_one : Gives Ineg (i32 1 ∷ []) (i32 4294967295)
  pub ineg_zero : Gives Ineg (i8 0 ∷ []) (i8 0)
  pub iabs_least : Gives Iabs (i8 128 ∷ []) (i8 128)
  pub iabs_minus_five : Gives Iabs (i8 251 ∷ []) (i8 5)
  pub smin_signs : Gives Smin (i8 127 ∷ i8 128 ∷ []) (i8 128)
  pub smax_signs : Gives Smax (i8 127 ∷ i8 128 ∷ []) (i8 127)
  pub umin_unsigned : Gives Umin (i8 127 ∷ i8 128 ∷ []) (i8 127)
  pub umax_unsigned : Gives Umax (i8 127 ∷ i8 128 ∷ []) (i8 128)
  pub umulhi_greatest : Gives Umulhi (i8 255 ∷ i8 255 ∷ []) (i8 254)
  pub smulhi_minus_one : Gives Smulhi (i8 255 ∷ i8 255 ∷ []) (i8 0)
  pub smulhi_signs : Gives Smulhi (i8 128 ∷ i8 1 ∷ []) (i8 255)

-- division: -7 by 2, 7 by -2, and by 0
pub record WorkedDivision : Type 0 where
  pub udiv_unsigned : Gives Udiv (i8 249 ∷ i8 2 ∷ []) (i8 124)
  pub urem_unsigned : Gives Urem (i8 249 ∷ i8 2 ∷ []) (i8 1)
  pub sdiv_toward_zero : Gives Sdiv (i8 249 ∷ i8 2 ∷ []) (i8 253)
  pub srem_sign_of_dividend : Gives Srem (i8 249 ∷ i8 2 ∷ []) (i8 255)
  pub sdiv_by_negative : Gives Sdiv (i8 7 ∷ i8 254 ∷ []) (i8 253)
  pub srem_by_negative : Gives Srem (i8 7 ∷ i8 254 ∷ []) (i8 1)
  pub udiv_by_zero : operation Udiv (i64 5 ∷ i64 0 ∷ []) ≡ Traps IntDivz
  pub sdiv_by_zero : operation Sdiv (i8 128 ∷ i8 0 ∷ []) ≡ Traps IntDivz
  pub urem_by_zero : operation Urem (i64 5 ∷ i64 0 ∷ []) ≡ Traps IntDivz
  pub srem_by_zero : operation Srem (i64 5 ∷ i64 0 ∷ []) ≡ Traps IntDivz

-- bits
pub record WorkedBits : Type 0 where
  pub band_bits : Gives Band (i8 12 ∷ i8 10 ∷ []) (i8 8)
  pub bor_bits : Gives Bor (i8 12 ∷ i8 10 ∷ []) (i8 14)
  pub bxor_bits : Gives Bxor (i8 12 ∷ i8 10 ∷ []) (i8 6)
  pub bnot_bits : Gives Bnot (i8 12 ∷ []) (i8 243)
  pub clz_one : Gives Clz (i32 1 ∷ []) (i32 31)
  pub clz_high : Gives Clz (i8 128 ∷ []) (i8 0)
  pub ctz_zero : Gives Ctz (i8 0 ∷ []) (i8 8)
  pub ctz_eight : Gives Ctz (i32 8 ∷ []) (i32 3)
  pub popcnt_mask : Gives Popcnt (i16 4080 ∷ []) (i16 8)
  pub bitrev_one : Gives Bitrev (i8 1 ∷ []) (i8 128)
  pub bitrev_six : Gives Bitrev (i16 6 ∷ []) (i16 24576)
  pub bswap_two : Gives Bswap (i16 258 ∷ []) (i16 513)
  pub bswap_four : Gives Bswap (i32 16909060 ∷ []) (i32 67305985)

-- shifts and rotations; the amount may have another type
pub record WorkedShifts : Type 0 where
  pub ishl_off : Gives Ishl (i8 129 ∷ i32 1 ∷ []) (i8 2)
  pub ishl_width : Gives Ishl (i8 129 ∷ i64 8 ∷ []) (i8 129)
  pub ushr_high : Gives Ushr (i8 128 ∷ i8 1 ∷ []) (i8 64)
  pub sshr_high : Gives Sshr (i8 128 ∷ i8 1 ∷ []) (i8 192)
  pub sshr_minus_three : Gives Sshr (i8 253 ∷ i8 1 ∷ []) (i8 254)
  pub rotl_high : Gives Rotl (i8 129 ∷ i8 1 ∷ []) (i8 3)
  pub rotl_zero : Gives Rotl (i8 129 ∷ i8 16 ∷ []) (i8 129)
  pub rotr_low : Gives Rotr (i8 129 ∷ i8 1 ∷ []) (i8 192)
  pub rotr_wide : Gives Rotr (i128 1 ∷ i8 1 ∷ []) (i128 (2 ^ 127))

-- comparison, other widths and overflow
pub record WorkedConversions : Type 0 where
  pub icmp_signed : Gives (Icmp Slt) (i8 255 ∷ i8 0 ∷ []) (i8 1)
  pub icmp_unsigned : Gives (Icmp Ult) (i64 (2 ^ 64 - 1) ∷ i64 0 ∷ []) (i8 0)
  pub select_first : Gives Select (i32 7 ∷ i8 1 ∷ i8 2 ∷ []) (i8 1)
  pub select_second : Gives Select (i32 0 ∷ i8 1 ∷ i8 2 ∷ []) (i8 2)
  pub uextend_zeros : Gives (Uextend W16) (i8 255 ∷ []) (i16 255)
  pub sextend_sign : Gives (Sextend W16) (i8 255 ∷ []) (i16 65535)
  pub sextend_wide : Gives (Sextend W128) (i8 128 ∷ []) (i128 (2 ^ 128 - 128))
  pub ireduce_low : Gives (Ireduce W8) (i64 513 ∷ []) (i8 1)
  pub iconcat_order : Gives Iconcat (i8 1 ∷ i8 2 ∷ []) (i16 513)
  pub isplit_order : operation Isplit (i16 513 ∷ []) ≡ Values (i8 1 ∷ i8 2 ∷ [])
  pub uadd_flag : operation UaddOverflow (i8 255 ∷ i8 1 ∷ []) ≡ Values (i8 0 ∷ i8 1 ∷ [])
  pub sadd_no_flag : operation SaddOverflow (i8 255 ∷ i8 1 ∷ []) ≡ Values (i8 0 ∷ i8 0 ∷ [])
  pub sadd_flag : operation SaddOverflow (i8 127 ∷ i8 1 ∷ []) ≡ Values (i8 128 ∷ i8 1 ∷ [])
  pub usub_flag : operation UsubOverflow (i8 0 ∷ i8 1 ∷ []) ≡ Values (i8 255 ∷ i8 1 ∷ [])
  pub ssub_no_flag : operation SsubOverflow (i8 0 ∷ i8 1 ∷ []) ≡ Values (i8 255 ∷ i8 0 ∷ [])
  pub ssub_flag : operation SsubOverflow (i8 128 ∷ i8 1 ∷ []) ≡ Values (i8 127 ∷ i8 1 ∷ [])

-- operands of no row
pub record WorkedRefusals : Type 0 where
  pub other_type : operation Iadd (i8 1 ∷ i16 1 ∷ []) ≡ NoRow
  pub other_count : operation Iadd (i8 1 ∷ []) ≡ NoRow
  pub sdiv_wide : operation Sdiv (i128 1 ∷ i128 1 ∷ []) ≡ NoRow
  pub umulhi_wide : operation Umulhi (i128 1 ∷ i128 1 ∷ []) ≡ NoRow
  pub bswap_byte : operation Bswap (i8 1 ∷ []) ≡ NoRow
  pub uextend_same : operation (Uextend W16) (i16 1 ∷ []) ≡ NoRow
  pub ireduce_same : operation (Ireduce W16) (i16 1 ∷ []) ≡ NoRow
  pub iconcat_wide : operation Iconcat (i128 1 ∷ i128 1 ∷ []) ≡ NoRow
  pub isplit_byte : operation Isplit (i8 1 ∷ []) ≡ NoRow
