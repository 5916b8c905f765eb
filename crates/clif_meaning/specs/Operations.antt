-- What an opcode of the text means.
use Rattle.std.specs.Prelude.{ℕ, Option, None, Some}
use Rattle.clk_num.specs.declared.op.Cc.TheVariants.{Eq}
use Rattle.clk_num.specs.declared.op.Op.{Op}
use Rattle.clk_num.specs.declared.op.Op.TheVariants as op
use Rattle.ir_core.specs.declared.signatures.Ty.{Ty}
use Rattle.ir_core.specs.declared.signatures.Ty.TheVariants.{I64}
use Rattle.ir_core.specs.declared.instructions.Access.{Access}
use Rattle.ir_core.specs.declared.instructions.Access.TheVariants as access
use Rattle.ir_core.specs.Lookup.{width_of}
use Rattle.clif_words.specs.declared.opcodes.Opcode.{Opcode}
use Rattle.clif_words.specs.declared.opcodes.Opcode.TheVariants.{Iadd, Isub, Imul, Band, Bor, Bxor, Smin, Smax, Umin}
use Rattle.clif_words.specs.declared.opcodes.Opcode.TheVariants.{Umax, Umulhi, Smulhi, Udiv, Urem, Sdiv, Srem, Ishl}
use Rattle.clif_words.specs.declared.opcodes.Opcode.TheVariants.{Ushr, Sshr, Rotl, Rotr, UaddOverflow, SaddOverflow}
use Rattle.clif_words.specs.declared.opcodes.Opcode.TheVariants.{UsubOverflow, SsubOverflow, Iconcat, Ineg, Bnot, Iabs}
use Rattle.clif_words.specs.declared.opcodes.Opcode.TheVariants.{Clz, Ctz, Popcnt, Bitrev, Bswap, Isplit, Select}
use Rattle.clif_words.specs.declared.opcodes.Opcode.TheVariants.{Uextend, Sextend, Ireduce, IaddImm, ImulImm, BandImm}
use Rattle.clif_words.specs.declared.opcodes.Opcode.TheVariants.{BorImm, BxorImm, IshlImm, UshrImm, SshrImm, Uload8}
use Rattle.clif_words.specs.declared.opcodes.Opcode.TheVariants.{Sload8, Uload16, Sload16, Uload32, Sload32, Istore8}
use Rattle.clif_words.specs.declared.opcodes.Opcode.TheVariants.{Istore16, Istore32}

-- The operation of an opcode on values, t being the type of its suffix. Those with an immediate number mean the plain
-- one. The conditions of `icmp` stand among its operands.
abbrev pub operation : Opcode → Ty → Op
operation Iadd t = op.Iadd
operation Isub t = op.Isub
operation Imul t = op.Imul
operation Band t = op.Band
operation Bor t = op.Bor
operation Bxor t = op.Bxor
operation Smin t = op.Smin
operation Smax t = op.Smax
operation Umin t = op.Umin
operation Umax t = op.Umax
operation Umulhi t = op.Umulhi
operation Smulhi t = op.Smulhi
operation Udiv t = op.Udiv
operation Urem t = op.Urem
operation Sdiv t = op.Sdiv
operation Srem t = op.Srem
operation Ishl t = op.Ishl
operation Ushr t = op.Ushr
operation Sshr t = op.Sshr
operation Rotl t = op.Rotl
operation Rotr t = op.Rotr
operation UaddOverflow t = op.UaddOverflow
operation SaddOverflow t = op.SaddOverflow
operation UsubOverflow t = op.UsubOverflow
operation SsubOverflow t = op.SsubOverflow
operation Iconcat t = op.Iconcat
operation Ineg t = op.Ineg
operation Bnot t = op.Bnot
operation Iabs t = op.Iabs
operation Clz t = op.Clz
operation Ctz t = op.Ctz
operation Popcnt t = op.Popcnt
operation Bitrev t = op.Bitrev
operation Bswap t = op.Bswap
operation Isplit t = op.Isplit
operation Select t = op.Select
operation Uextend t = op.Uextend (width_of t)
operation Sextend t = op.Sextend (width_of t)
operation Ireduce t = op.Ireduce (width_of t)
operation IaddImm t = op.Iadd
operation ImulImm t = op.Imul
operation BandImm t = op.Band
operation BorImm t = op.Bor
operation BxorImm t = op.Bxor
operation IshlImm t = op.Ishl
operation UshrImm t = op.Ushr
operation SshrImm t = op.Sshr
operation _ t = op.Icmp Eq

-- what a load reads; one of 32 bits gives an i64 whatever its suffix
abbrev pub access_of : Opcode → Ty → Access
access_of Uload8 t = access.Uload t 1
access_of Sload8 t = access.Sload t 1
access_of Uload16 t = access.Uload t 2
access_of Sload16 t = access.Sload t 2
access_of Uload32 t = access.Uload I64 4
access_of Sload32 t = access.Sload I64 4
access_of _ t = access.Full t

-- the number of bytes stored, where the whole value is not
abbrev pub stored_bytes : Opcode → Option ℕ
stored_bytes Istore8 = Some 1
stored_bytes Istore16 = Some 2
stored_bytes Istore32 = Some 4
stored_bytes _ = None
