-- The opcodes of an operation: with an immediate it has one exactly where it has a form with an immediate.
use Rattle.std.proofs.Common.{◌≡◌, refl}
use Rattle.std.specs.Prelude.{is_some}
use Rattle.clk_num.specs.declared.op.Op.{Op}
use Rattle.clk_num.specs.declared.op.Op.TheVariants as ops
use Rattle.ir_core.specs.Forms.{has_immediate}
use Rattle.clif_words.specs.Opcodes.{with_immediate}
use Rattle.clif_words.specs.Printed.{value_opcode, immediate_opcode}

-- the table has the one with an immediate in the row of the one on values
pub row_of_immediate : (op : Op) → with_immediate (value_opcode op) ≡ immediate_opcode op
row_of_immediate ops.Iadd = refl
row_of_immediate ops.Isub = refl
row_of_immediate ops.Imul = refl
row_of_immediate ops.Band = refl
row_of_immediate ops.Bor = refl
row_of_immediate ops.Bxor = refl
row_of_immediate ops.Smin = refl
row_of_immediate ops.Smax = refl
row_of_immediate ops.Umin = refl
row_of_immediate ops.Umax = refl
row_of_immediate ops.Umulhi = refl
row_of_immediate ops.Smulhi = refl
row_of_immediate ops.Udiv = refl
row_of_immediate ops.Urem = refl
row_of_immediate ops.Sdiv = refl
row_of_immediate ops.Srem = refl
row_of_immediate ops.Ishl = refl
row_of_immediate ops.Ushr = refl
row_of_immediate ops.Sshr = refl
row_of_immediate ops.Rotl = refl
row_of_immediate ops.Rotr = refl
row_of_immediate ops.UaddOverflow = refl
row_of_immediate ops.SaddOverflow = refl
row_of_immediate ops.UsubOverflow = refl
row_of_immediate ops.SsubOverflow = refl
row_of_immediate ops.Iconcat = refl
row_of_immediate ops.Ineg = refl
row_of_immediate ops.Bnot = refl
row_of_immediate ops.Iabs = refl
row_of_immediate ops.Clz = refl
row_of_immediate ops.Ctz = refl
row_of_immediate ops.Popcnt = refl
row_of_immediate ops.Bitrev = refl
row_of_immediate ops.Bswap = refl
row_of_immediate ops.Isplit = refl
row_of_immediate (ops.Icmp c) = refl
row_of_immediate ops.Select = refl
row_of_immediate (ops.Uextend width) = refl
row_of_immediate (ops.Sextend width) = refl
row_of_immediate (ops.Ireduce width) = refl

pub immediate_form : (op : Op) → is_some (immediate_opcode op) ≡ has_immediate op
immediate_form ops.Iadd = refl
immediate_form ops.Isub = refl
immediate_form ops.Imul = refl
immediate_form ops.Band = refl
immediate_form ops.Bor = refl
immediate_form ops.Bxor = refl
immediate_form ops.Smin = refl
immediate_form ops.Smax = refl
immediate_form ops.Umin = refl
immediate_form ops.Umax = refl
immediate_form ops.Umulhi = refl
immediate_form ops.Smulhi = refl
immediate_form ops.Udiv = refl
immediate_form ops.Urem = refl
immediate_form ops.Sdiv = refl
immediate_form ops.Srem = refl
immediate_form ops.Ishl = refl
immediate_form ops.Ushr = refl
immediate_form ops.Sshr = refl
immediate_form ops.Rotl = refl
immediate_form ops.Rotr = refl
immediate_form ops.UaddOverflow = refl
immediate_form ops.SaddOverflow = refl
immediate_form ops.UsubOverflow = refl
immediate_form ops.SsubOverflow = refl
immediate_form ops.Iconcat = refl
immediate_form ops.Ineg = refl
immediate_form ops.Bnot = refl
immediate_form ops.Iabs = refl
immediate_form ops.Clz = refl
immediate_form ops.Ctz = refl
immediate_form ops.Popcnt = refl
immediate_form ops.Bitrev = refl
immediate_form ops.Bswap = refl
immediate_form ops.Isplit = refl
immediate_form (ops.Icmp c) = refl
immediate_form ops.Select = refl
immediate_form (ops.Uextend width) = refl
immediate_form (ops.Sextend width) = refl
immediate_form (ops.Ireduce width) = refl
