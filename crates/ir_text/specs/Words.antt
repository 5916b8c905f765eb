-- The words of CLIF: of its opcodes, types, conditions, trap codes, memory flags and calling conventions.
use Rattle.std.specs.Prelude.{ℕ, List, codes}
use Rattle.clk_num.specs.declared.op.Cc.{Cc}
use Rattle.clk_num.specs.declared.op.Cc.TheVariants.{Eq, Ne, Slt, Sge, Sgt, Sle, Ult, Uge, Ugt, Ule}
use Rattle.clk_num.specs.declared.op.Op.{Op}
use Rattle.clk_num.specs.declared.op.Op.TheVariants.{Iadd, Isub, Imul, Band, Bor, Bxor, Smin, Smax, Umin, Umax, Umulhi}
use Rattle.clk_num.specs.declared.op.Op.TheVariants.{Smulhi, Udiv, Urem, Sdiv, Srem, Ineg, Bnot, Iabs, Clz, Ctz, Popcnt}
use Rattle.clk_num.specs.declared.op.Op.TheVariants.{Bitrev, Bswap, Ishl, Ushr, Sshr, Rotl, Rotr, Icmp, Select, Uextend}
use Rattle.clk_num.specs.declared.op.Op.TheVariants.{Sextend, Ireduce, UaddOverflow, SaddOverflow, UsubOverflow}
use Rattle.clk_num.specs.declared.op.Op.TheVariants.{SsubOverflow, Iconcat, Isplit}
use Rattle.ir_core.specs.declared.signatures.Conv.{Conv}
use Rattle.ir_core.specs.declared.signatures.Conv.TheVariants as conv
use Rattle.ir_core.specs.declared.signatures.Ty.{Ty}
use Rattle.ir_core.specs.declared.signatures.Ty.TheVariants.{I8, I16, I32, I64, I128}

-- the opcode of an operation on values; behind that of an operation with an immediate number `_imm` follows
abbrev pub op_word : Op → List ℕ
op_word Iadd = codes "iadd"
op_word Isub = codes "isub"
op_word Imul = codes "imul"
op_word Band = codes "band"
op_word Bor = codes "bor"
op_word Bxor = codes "bxor"
op_word Smin = codes "smin"
op_word Smax = codes "smax"
op_word Umin = codes "umin"
op_word Umax = codes "umax"
op_word Umulhi = codes "umulhi"
op_word Smulhi = codes "smulhi"
op_word Udiv = codes "udiv"
op_word Urem = codes "urem"
op_word Sdiv = codes "sdiv"
op_word Srem = codes "srem"
op_word Ineg = codes "ineg"
op_word Bnot = codes "bnot"
op_word Iabs = codes "iabs"
op_word Clz = codes "clz"
op_word Ctz = codes "ctz"
op_word Popcnt = codes "popcnt"
op_word Bitrev = codes "bitrev"
op_word Bswap = codes "bswap"
op_word Ishl = codes "ishl"
op_word Ushr = codes "ushr"
op_word Sshr = codes "sshr"
op_word Rotl = codes "rotl"
op_word Rotr = codes "rotr"
op_word (Icmp cc) = codes "icmp"
op_word Select = codes "select"
op_word (Uextend width) = codes "uextend"
op_word (Sextend width) = codes "sextend"
op_word (Ireduce width) = codes "ireduce"
op_word UaddOverflow = codes "uadd_overflow"
op_word SaddOverflow = codes "sadd_overflow"
op_word UsubOverflow = codes "usub_overflow"
op_word SsubOverflow = codes "ssub_overflow"
op_word Iconcat = codes "iconcat"
op_word Isplit = codes "isplit"

abbrev pub condition_word : Cc → List ℕ
condition_word Eq = codes "eq"
condition_word Ne = codes "ne"
condition_word Slt = codes "slt"
condition_word Sge = codes "sge"
condition_word Sgt = codes "sgt"
condition_word Sle = codes "sle"
condition_word Ult = codes "ult"
condition_word Uge = codes "uge"
condition_word Ugt = codes "ugt"
condition_word Ule = codes "ule"

abbrev pub type_word : Ty → List ℕ
type_word I8 = codes "i8"
type_word I16 = codes "i16"
type_word I32 = codes "i32"
type_word I64 = codes "i64"
type_word I128 = codes "i128"

abbrev pub convention_word : Conv → List ℕ
convention_word conv.Fast = codes "fast"
convention_word conv.Cold = codes "cold"
convention_word conv.Tail = codes "tail"
convention_word conv.SystemV = codes "system_v"
convention_word conv.WindowsFastcall = codes "windows_fastcall"
convention_word conv.AppleAarch64 = codes "apple_aarch64"
convention_word conv.Probestack = codes "probestack"
convention_word conv.Winch = codes "winch"
