-- The opcodes in the order of the table, and how each is spelled.
use Rattle.std.specs.Prelude.{ℕ, List, [], ◌∷◌, codes, slice_get, Option, Some, None}
use Rattle.clk_num.specs.declared.op.Cc.TheVariants as cc
use Rattle.clk_num.specs.declared.op.Op.TheVariants as ops
use Rattle.clk_num.specs.declared.width.Width.TheVariants as widths
use Rattle.ir_text.specs.Words.{op_word}
use Rattle.clif_words.specs.declared.opcodes.Opcode.{Opcode}
use Rattle.clif_words.specs.declared.opcodes.Opcode.TheVariants.{Iconst, Iadd, Isub, Imul, Band, Bor, Bxor, Smin, Smax}
use Rattle.clif_words.specs.declared.opcodes.Opcode.TheVariants.{Umin, Umax, Umulhi, Smulhi, Udiv, Urem, Sdiv, Srem}
use Rattle.clif_words.specs.declared.opcodes.Opcode.TheVariants.{Ishl, Ushr, Sshr, Rotl, Rotr, UaddOverflow}
use Rattle.clif_words.specs.declared.opcodes.Opcode.TheVariants.{SaddOverflow, UsubOverflow, SsubOverflow, Iconcat}
use Rattle.clif_words.specs.declared.opcodes.Opcode.TheVariants.{Ineg, Bnot, Iabs, Clz, Ctz, Popcnt, Bitrev, Bswap}
use Rattle.clif_words.specs.declared.opcodes.Opcode.TheVariants.{Isplit, Icmp, Select, Uextend, Sextend, Ireduce}
use Rattle.clif_words.specs.declared.opcodes.Opcode.TheVariants.{IaddImm, ImulImm, BandImm, BorImm, BxorImm, IshlImm}
use Rattle.clif_words.specs.declared.opcodes.Opcode.TheVariants.{UshrImm, SshrImm, IcmpImm, Load, Uload8, Sload8}
use Rattle.clif_words.specs.declared.opcodes.Opcode.TheVariants.{Uload16, Sload16, Uload32, Sload32, Store, Istore8}
use Rattle.clif_words.specs.declared.opcodes.Opcode.TheVariants.{Istore16, Istore32, StackLoad, StackStore, FuncAddr}
use Rattle.clif_words.specs.declared.opcodes.Opcode.TheVariants.{Nop, SequencePoint, Jump, Brif, BrTable, Return, Trap}
use Rattle.clif_words.specs.declared.opcodes.Opcode.TheVariants.{Trapz, Trapnz, Call, ReturnCall, TryCall, CallIndirect}
use Rattle.clif_words.specs.declared.opcodes.Opcode.TheVariants.{ReturnCallIndirect, TryCallIndirect}
use Rattle.clif_words.specs.Table.{imm_word}

-- each opcode once; its number is its place here
abbrev pub all_opcodes : List Opcode
all_opcodes =
    Iconst ∷ Iadd ∷ Isub ∷ Imul ∷ Band ∷ Bor ∷ Bxor ∷ Smin ∷ Smax ∷ Umin ∷ Umax ∷ Umulhi ∷ Smulhi ∷ Udiv ∷
    Urem ∷ Sdiv ∷ Srem ∷ Ishl ∷ Ushr ∷ Sshr ∷ Rotl ∷ Rotr ∷ UaddOverflow ∷ SaddOverflow ∷ UsubOverflow ∷
    SsubOverflow ∷ Iconcat ∷ Ineg ∷ Bnot ∷ Iabs ∷ Clz ∷ Ctz ∷ Popcnt ∷ Bitrev ∷ Bswap ∷ Isplit ∷ Icmp ∷
    Select ∷ Uextend ∷ Sextend ∷ Ireduce ∷ IaddImm ∷ ImulImm ∷ BandImm ∷ BorImm ∷ BxorImm ∷ IshlImm ∷
    UshrImm ∷ SshrImm ∷ IcmpImm ∷ Load ∷ Uload8 ∷ Sload8 ∷ Uload16 ∷ Sload16 ∷ Uload32 ∷ Sload32 ∷ Store ∷
    Istore8 ∷ Istore16 ∷ Istore32 ∷ StackLoad ∷ StackStore ∷ FuncAddr ∷ Nop ∷ SequencePoint ∷ Jump ∷ Brif ∷
    BrTable ∷ Return ∷ Trap ∷ Trapz ∷ Trapnz ∷ Call ∷ ReturnCall ∷ TryCall ∷ CallIndirect ∷
    ReturnCallIndirect ∷ TryCallIndirect ∷ []

-- the opcode at a place, and `nop` where there is none
abbrev pub or_nop : Option Opcode → Opcode
or_nop (Some opcode) = opcode
or_nop None = Nop

-- the opcode that a word with this number is
unfoldable pub opcode_of : ℕ → Opcode
opcode_of n = or_nop (slice_get all_opcodes n)

abbrev pub word : Opcode → List ℕ
word Iconst = codes "iconst"
word Iadd = op_word ops.Iadd
word Isub = op_word ops.Isub
word Imul = op_word ops.Imul
word Band = op_word ops.Band
word Bor = op_word ops.Bor
word Bxor = op_word ops.Bxor
word Smin = op_word ops.Smin
word Smax = op_word ops.Smax
word Umin = op_word ops.Umin
word Umax = op_word ops.Umax
word Umulhi = op_word ops.Umulhi
word Smulhi = op_word ops.Smulhi
word Udiv = op_word ops.Udiv
word Urem = op_word ops.Urem
word Sdiv = op_word ops.Sdiv
word Srem = op_word ops.Srem
word Ishl = op_word ops.Ishl
word Ushr = op_word ops.Ushr
word Sshr = op_word ops.Sshr
word Rotl = op_word ops.Rotl
word Rotr = op_word ops.Rotr
word UaddOverflow = op_word ops.UaddOverflow
word SaddOverflow = op_word ops.SaddOverflow
word UsubOverflow = op_word ops.UsubOverflow
word SsubOverflow = op_word ops.SsubOverflow
word Iconcat = op_word ops.Iconcat
word Ineg = op_word ops.Ineg
word Bnot = op_word ops.Bnot
word Iabs = op_word ops.Iabs
word Clz = op_word ops.Clz
word Ctz = op_word ops.Ctz
word Popcnt = op_word ops.Popcnt
word Bitrev = op_word ops.Bitrev
word Bswap = op_word ops.Bswap
word Isplit = op_word ops.Isplit
word Icmp = op_word (ops.Icmp cc.Eq)
word Select = op_word ops.Select
word Uextend = op_word (ops.Uextend widths.W8)
word Sextend = op_word (ops.Sextend widths.W8)
word Ireduce = op_word (ops.Ireduce widths.W8)
word IaddImm = imm_word ops.Iadd
word ImulImm = imm_word ops.Imul
word BandImm = imm_word ops.Band
word BorImm = imm_word ops.Bor
word BxorImm = imm_word ops.Bxor
word IshlImm = imm_word ops.Ishl
word UshrImm = imm_word ops.Ushr
word SshrImm = imm_word ops.Sshr
word IcmpImm = imm_word (ops.Icmp cc.Eq)
word Load = codes "load"
word Uload8 = codes "uload8"
word Sload8 = codes "sload8"
word Uload16 = codes "uload16"
word Sload16 = codes "sload16"
word Uload32 = codes "uload32"
word Sload32 = codes "sload32"
word Store = codes "store"
word Istore8 = codes "istore8"
word Istore16 = codes "istore16"
word Istore32 = codes "istore32"
word StackLoad = codes "stack_load"
word StackStore = codes "stack_store"
word FuncAddr = codes "func_addr"
word Nop = codes "nop"
word SequencePoint = codes "sequence_point"
word Jump = codes "jump"
word Brif = codes "brif"
word BrTable = codes "br_table"
word Return = codes "return"
word Trap = codes "trap"
word Trapz = codes "trapz"
word Trapnz = codes "trapnz"
word Call = codes "call"
word ReturnCall = codes "return_call"
word TryCall = codes "try_call"
word CallIndirect = codes "call_indirect"
word ReturnCallIndirect = codes "return_call_indirect"
word TryCallIndirect = codes "try_call_indirect"

-- the opcode of an operation's form with an immediate; not each has one
abbrev pub with_immediate : Opcode → Option Opcode
with_immediate Iadd = Some IaddImm
with_immediate Imul = Some ImulImm
with_immediate Band = Some BandImm
with_immediate Bor = Some BorImm
with_immediate Bxor = Some BxorImm
with_immediate Ishl = Some IshlImm
with_immediate Ushr = Some UshrImm
with_immediate Sshr = Some SshrImm
with_immediate Icmp = Some IcmpImm
with_immediate opcode = None

-- the number of the opcode, its place among them all
abbrev pub place : Opcode → ℕ
place Iconst = 0
place Iadd = 1
place Isub = 2
place Imul = 3
place Band = 4
place Bor = 5
place Bxor = 6
place Smin = 7
place Smax = 8
place Umin = 9
place Umax = 10
place Umulhi = 11
place Smulhi = 12
place Udiv = 13
place Urem = 14
place Sdiv = 15
place Srem = 16
place Ishl = 17
place Ushr = 18
place Sshr = 19
place Rotl = 20
place Rotr = 21
place UaddOverflow = 22
place SaddOverflow = 23
place UsubOverflow = 24
place SsubOverflow = 25
place Iconcat = 26
place Ineg = 27
place Bnot = 28
place Iabs = 29
place Clz = 30
place Ctz = 31
place Popcnt = 32
place Bitrev = 33
place Bswap = 34
place Isplit = 35
place Icmp = 36
place Select = 37
place Uextend = 38
place Sextend = 39
place Ireduce = 40
place IaddImm = 41
place ImulImm = 42
place BandImm = 43
place BorImm = 44
place BxorImm = 45
place IshlImm = 46
place UshrImm = 47
place SshrImm = 48
place IcmpImm = 49
place Load = 50
place Uload8 = 51
place Sload8 = 52
place Uload16 = 53
place Sload16 = 54
place Uload32 = 55
place Sload32 = 56
place Store = 57
place Istore8 = 58
place Istore16 = 59
place Istore32 = 60
place StackLoad = 61
place StackStore = 62
place FuncAddr = 63
place Nop = 64
place SequencePoint = 65
place Jump = 66
place Brif = 67
place BrTable = 68
place Return = 69
place Trap = 70
place Trapz = 71
place Trapnz = 72
place Call = 73
place ReturnCall = 74
place TryCall = 75
place CallIndirect = 76
place ReturnCallIndirect = 77
place TryCallIndirect = 78
