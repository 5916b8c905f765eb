-- The worked examples hold: each is computed.
use Rattle.std.proofs.Common.{refl}
use Rattle.clk_num.specs.Rows.{row}
use Rattle.clk_num.specs.Numbers.{signed, wrapped, fits_signed, floored, quotient, remainder, sum_below, with_bits, with_bytes, zeros_from_top, zeros_from_bottom}
use Rattle.clk_num.specs.Operations.{operation, meaning, iadd, isub, imul, ineg, iabs, umin, umax, smin, smax, umulhi, smulhi, udiv, urem, sdiv, srem, divides_by_zero, sdiv_trap, band, bor, bxor, bnot, clz, ctz, popcnt, bitrev, bswap, ishl, ushr, sshr, rotl, rotr, holds, sextend, ireduce, iconcat, low_half, high_half, uadd_overflows, sadd_overflows, usub_overflows, ssub_overflows}
use Rattle.clk_num.specs.Examples.{WorkedRows, WorkedArithmetic, WorkedDivision, WorkedBits, WorkedShifts, WorkedConversions, WorkedRefusals}

pub worked_rows : WorkedRows
unfolding operation row meaning iadd isub imul ineg iabs umin umax smin smax umulhi smulhi udiv urem sdiv srem divides_by_zero sdiv_trap band bor bxor bnot clz ctz popcnt bitrev bswap ishl ushr sshr rotl rotr holds sextend ireduce iconcat low_half high_half uadd_overflows sadd_overflows usub_overflows ssub_overflows signed wrapped fits_signed floored quotient remainder sum_below with_bits with_bytes zeros_from_top zeros_from_bottom
worked_rows = record {
  sdiv_least = refl;
  srem_least = refl;
  ishl_past = refl;
  clz_zero = refl;
}

pub worked_arithmetic : WorkedArithmetic
unfolding operation row meaning iadd isub imul ineg iabs umin umax smin smax umulhi smulhi udiv urem sdiv srem divides_by_zero sdiv_trap band bor bxor bnot clz ctz popcnt bitrev bswap ishl ushr sshr rotl rotr holds sextend ireduce iconcat low_half high_half uadd_overflows sadd_overflows usub_overflows ssub_overflows signed wrapped fits_signed floored quotient remainder sum_below with_bits with_bytes zeros_from_top zeros_from_bottom
worked_arithmetic = record {
  iadd_wraps = refl;
  isub_wraps = refl;
  imul_wraps = refl;
  ineg_one = refl;
  ineg_zero = refl;
  iabs_least = refl;
  iabs_minus_five = refl;
  smin_signs = refl;
  smax_signs = refl;
  umin_unsigned = refl;
  umax_unsigned = refl;
  umulhi_greatest = refl;
  smulhi_minus_one = refl;
  smulhi_signs = refl;
}

pub worked_division : WorkedDivision
unfolding operation row meaning iadd isub imul ineg iabs umin umax smin smax umulhi smulhi udiv urem sdiv srem divides_by_zero sdiv_trap band bor bxor bnot clz ctz popcnt bitrev bswap ishl ushr sshr rotl rotr holds sextend ireduce iconcat low_half high_half uadd_overflows sadd_overflows usub_overflows ssub_overflows signed wrapped fits_signed floored quotient remainder sum_below with_bits with_bytes zeros_from_top zeros_from_bottom
worked_division = record {
  udiv_unsigned = refl;
  urem_unsigned = refl;
  sdiv_toward_zero = refl;
  srem_sign_of_dividend = refl;
  sdiv_by_negative = refl;
  srem_by_negative = refl;
  udiv_by_zero = refl;
  sdiv_by_zero = refl;
  urem_by_zero = refl;
  srem_by_zero = refl;
}

pub worked_bits : WorkedBits
unfolding operation row meaning iadd isub imul ineg iabs umin umax smin smax umulhi smulhi udiv urem sdiv srem divides_by_zero sdiv_trap band bor bxor bnot clz ctz popcnt bitrev bswap ishl ushr sshr rotl rotr holds sextend ireduce iconcat low_half high_half uadd_overflows sadd_overflows usub_overflows ssub_overflows signed wrapped fits_signed floored quotient remainder sum_below with_bits with_bytes zeros_from_top zeros_from_bottom
worked_bits = record {
  band_bits = refl;
  bor_bits = refl;
  bxor_bits = refl;
  bnot_bits = refl;
  clz_one = refl;
  clz_high = refl;
  ctz_zero = refl;
  ctz_eight = refl;
  popcnt_mask = refl;
  bitrev_one = refl;
  bitrev_six = refl;
  bswap_two = refl;
  bswap_four = refl;
}

pub worked_shifts : WorkedShifts
unfolding operation row meaning iadd isub imul ineg iabs umin umax smin smax umulhi smulhi udiv urem sdiv srem divides_by_zero sdiv_trap band bor bxor bnot clz ctz popcnt bitrev bswap ishl ushr sshr rotl rotr holds sextend ireduce iconcat low_half high_half uadd_overflows sadd_overflows usub_overflows ssub_overflows signed wrapped fits_signed floored quotient remainder sum_below with_bits with_bytes zeros_from_top zeros_from_bottom
worked_shifts = record {
  ishl_off = refl;
  ishl_width = refl;
  ushr_high = refl;
  sshr_high = refl;
  sshr_minus_three = refl;
  rotl_high = refl;
  rotl_zero = refl;
  rotr_low = refl;
  rotr_wide = refl;
}

pub worked_conversions : WorkedConversions
unfolding operation row meaning iadd isub imul ineg iabs umin umax smin smax umulhi smulhi udiv urem sdiv srem divides_by_zero sdiv_trap band bor bxor bnot clz ctz popcnt bitrev bswap ishl ushr sshr rotl rotr holds sextend ireduce iconcat low_half high_half uadd_overflows sadd_overflows usub_overflows ssub_overflows signed wrapped fits_signed floored quotient remainder sum_below with_bits with_bytes zeros_from_top zeros_from_bottom
worked_conversions = record {
  icmp_signed = refl;
  icmp_unsigned = refl;
  select_first = refl;
  select_second = refl;
  uextend_zeros = refl;
  sextend_sign = refl;
  sextend_wide = refl;
  ireduce_low = refl;
  iconcat_order = refl;
  isplit_order = refl;
  uadd_flag = refl;
  sadd_no_flag = refl;
  sadd_flag = refl;
  usub_flag = refl;
  ssub_no_flag = refl;
  ssub_flag = refl;
}

pub worked_refusals : WorkedRefusals
unfolding operation row meaning iadd isub imul ineg iabs umin umax smin smax umulhi smulhi udiv urem sdiv srem divides_by_zero sdiv_trap band bor bxor bnot clz ctz popcnt bitrev bswap ishl ushr sshr rotl rotr holds sextend ireduce iconcat low_half high_half uadd_overflows sadd_overflows usub_overflows ssub_overflows signed wrapped fits_signed floored quotient remainder sum_below with_bits with_bytes zeros_from_top zeros_from_bottom
worked_refusals = record {
  other_type = refl;
  other_count = refl;
  sdiv_wide = refl;
  umulhi_wide = refl;
  bswap_byte = refl;
  uextend_same = refl;
  ireduce_same = refl;
  iconcat_wide = refl;
  isplit_byte = refl;
}
