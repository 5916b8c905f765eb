-- The opcode that an instruction of a function is printed with.
use Rattle.std.specs.Prelude.{◌≡◌, ℕ, ◌==◌, if◌then◌else◌, List, ◌++◌, Option, Some, None}
use Rattle.clk_num.specs.declared.op.Op.{Op}
use Rattle.clk_num.specs.declared.op.Op.TheVariants as ops
use Rattle.ir_core.specs.declared.instructions.Access.{Access}
use Rattle.ir_core.specs.declared.instructions.Access.TheVariants as access
use Rattle.ir_core.specs.declared.signatures.Ty.{Ty}
use Rattle.ir_core.specs.Module.{Simple, Branch, CallTarget, Instruction}
use Rattle.ir_core.specs.Module as insts
use Rattle.ir_text.specs.Numbering.{Numbering}
use Rattle.ir_text.specs.TextTree.{spelled}
use Rattle.ir_text.specs.TextInstructions.{instruction}
use Rattle.clif_words.specs.declared.opcodes.Opcode.{Opcode}
use Rattle.clif_words.specs.declared.opcodes.Opcode.TheVariants.{Iconst, Iadd, Isub, Imul, Band, Bor, Bxor, Smin, Smax}
use Rattle.clif_words.specs.declared.opcodes.Opcode.TheVariants.{Umin, Umax, Umulhi, Smulhi, Udiv, Urem, Sdiv, Srem}
use Rattle.clif_words.specs.declared.opcodes.Opcode.TheVariants.{Ishl, Ushr, Sshr, Rotl, Rotr, UaddOverflow}
use Rattle.clif_words.specs.declared.opcodes.Opcode.TheVariants.{SaddOverflow, UsubOverflow, SsubOverflow, Iconcat}
use Rattle.clif_words.specs.declared.opcodes.Opcode.TheVariants.{Ineg, Bnot, Iabs, Clz, Ctz, Popcnt, Bitrev, Bswap}
use Rattle.clif_words.specs.declared.opcodes.Opcode.TheVariants.{Isplit, Icmp, Select, Uextend, Sextend, Ireduce}
use Rattle.clif_words.specs.declared.opcodes.Opcode.TheVariants.{IaddImm, ImulImm, BandImm, BorImm, BxorImm, IshlImm}
use Rattle.clif_words.specs.declared.opcodes.Opcode.TheVariants.{UshrImm, SshrImm, IcmpImm, Load, Uload8, Sload8}
use Rattle.clif_words.specs.declared.opcodes.Opcode.TheVariants.{Uload16, Sload16, Uload32, Sload32, Store, Istore8}
use Rattle.clif_words.specs.declared.opcodes.Opcode.TheVariants.{Istore16, Istore32, StackLoad, StackStore, FuncAddr}
use Rattle.clif_words.specs.declared.opcodes.Opcode.TheVariants.{Nop, SequencePoint, Jump, Brif, BrTable, Return, Trap}
use Rattle.clif_words.specs.declared.opcodes.Opcode.TheVariants.{Trapz, Trapnz, Call, ReturnCall, TryCall, CallIndirect}
use Rattle.clif_words.specs.declared.opcodes.Opcode.TheVariants.{ReturnCallIndirect, TryCallIndirect}
use Rattle.clif_words.specs.Opcodes.{word}

-- of an operation on values
abbrev pub value_opcode : Op → Opcode
value_opcode ops.Iadd = Iadd
value_opcode ops.Isub = Isub
value_opcode ops.Imul = Imul
value_opcode ops.Band = Band
value_opcode ops.Bor = Bor
value_opcode ops.Bxor = Bxor
value_opcode ops.Smin = Smin
value_opcode ops.Smax = Smax
value_opcode ops.Umin = Umin
value_opcode ops.Umax = Umax
value_opcode ops.Umulhi = Umulhi
value_opcode ops.Smulhi = Smulhi
value_opcode ops.Udiv = Udiv
value_opcode ops.Urem = Urem
value_opcode ops.Sdiv = Sdiv
value_opcode ops.Srem = Srem
value_opcode ops.Ishl = Ishl
value_opcode ops.Ushr = Ushr
value_opcode ops.Sshr = Sshr
value_opcode ops.Rotl = Rotl
value_opcode ops.Rotr = Rotr
value_opcode ops.UaddOverflow = UaddOverflow
value_opcode ops.SaddOverflow = SaddOverflow
value_opcode ops.UsubOverflow = UsubOverflow
value_opcode ops.SsubOverflow = SsubOverflow
value_opcode ops.Iconcat = Iconcat
value_opcode ops.Ineg = Ineg
value_opcode ops.Bnot = Bnot
value_opcode ops.Iabs = Iabs
value_opcode ops.Clz = Clz
value_opcode ops.Ctz = Ctz
value_opcode ops.Popcnt = Popcnt
value_opcode ops.Bitrev = Bitrev
value_opcode ops.Bswap = Bswap
value_opcode ops.Isplit = Isplit
value_opcode (ops.Icmp c) = Icmp
value_opcode ops.Select = Select
value_opcode (ops.Uextend width) = Uextend
value_opcode (ops.Sextend width) = Sextend
value_opcode (ops.Ireduce width) = Ireduce

-- of an operation with an immediate number; not each has one
abbrev pub immediate_opcode : Op → Option Opcode
immediate_opcode ops.Iadd = Some IaddImm
immediate_opcode ops.Imul = Some ImulImm
immediate_opcode ops.Band = Some BandImm
immediate_opcode ops.Bor = Some BorImm
immediate_opcode ops.Bxor = Some BxorImm
immediate_opcode ops.Ishl = Some IshlImm
immediate_opcode ops.Ushr = Some UshrImm
immediate_opcode ops.Sshr = Some SshrImm
immediate_opcode (ops.Icmp c) = Some IcmpImm
immediate_opcode op = None

-- of an access of 1, 2 or 4 bytes
abbrev pub by_bytes : (one two four : Opcode) → ℕ → Option Opcode
by_bytes one two four bytes =
    if bytes == 1 then Some one else if bytes == 2 then Some two else if bytes == 4 then Some four else None

abbrev pub load_opcode : Access → Option Opcode
load_opcode (access.Full t) = Some Load
load_opcode (access.Uload t bytes) = by_bytes Uload8 Uload16 Uload32 bytes
load_opcode (access.Sload t bytes) = by_bytes Sload8 Sload16 Sload32 bytes

abbrev pub store_opcode : Option ℕ → Option Opcode
store_opcode None = Some Store
store_opcode (Some bytes) = by_bytes Istore8 Istore16 Istore32 bytes

abbrev pub simple_opcode : Simple → Option Opcode
simple_opcode insts.Nop = Some Nop
simple_opcode (insts.Const d) = Some Iconst
simple_opcode (insts.Pure op args) = Some (value_opcode op)
simple_opcode (insts.PureImm op x d) = immediate_opcode op
simple_opcode (insts.Load from f p offset) = load_opcode from
simple_opcode (insts.Store narrow f x p offset) = store_opcode narrow
simple_opcode (insts.StackLoad t slot offset) = Some StackLoad
simple_opcode (insts.StackStore x slot offset) = Some StackStore
simple_opcode (insts.FuncAddr callee) = Some FuncAddr
simple_opcode (insts.Trap code) = Some Trap
simple_opcode (insts.Trapz x code) = Some Trapz
simple_opcode (insts.Trapnz x code) = Some Trapnz

abbrev pub branch_opcode : Branch → Opcode
branch_opcode (insts.Jump t) = Jump
branch_opcode (insts.Brif x taken other) = Brif
branch_opcode (insts.BrTable x default entries) = BrTable

abbrev pub call_opcode : (direct indirect : Opcode) → CallTarget → Opcode
call_opcode direct indirect (insts.Direct callee) = direct
call_opcode direct indirect (insts.Indirect sig p) = indirect

abbrev pub opcode_of : Instruction → Option Opcode
opcode_of (insts.Plain i) = simple_opcode i
opcode_of (insts.Branches b) = Some (branch_opcode b)
opcode_of insts.SequencePoint = Some SequencePoint
opcode_of (insts.Return vs) = Some Return
opcode_of (insts.Call to args) = Some (call_opcode Call CallIndirect to)
opcode_of (insts.ReturnCall to args) = Some (call_opcode ReturnCall ReturnCallIndirect to)
opcode_of (insts.TryCall to sig args normal table) =
    Some (call_opcode TryCall TryCallIndirect (insts.call_target to sig))

-- the canonical text of an instruction begins with the word of its opcode
abbrev pub BeginsWithWord : Instruction → Type 0
BeginsWithWord i =
    (o : Opcode) → opcode_of i ≡ Some o → (n : Numbering) (s : Option Ty)
    → (rest : List ℕ) × (spelled (instruction n s i) ≡ word o ++ rest)
