-- The opcode of each row of the table that an instruction's text begins with.
use Rattle.std.proofs.Common.{◌≡◌, ℕ, List, ◌++◌, refl}
use Rattle.std.specs.Prelude.{codes}
use Rattle.std.specs.Fmt.{decimal}
use Rattle.clk_num.specs.declared.op.Op.{Op}
use Rattle.clk_num.specs.declared.op.Op.TheVariants as ops
use Rattle.ir_text.specs.Words.{op_word}
use Rattle.clif_words.specs.declared.opcodes.Opcode.{Opcode}
use Rattle.clif_words.specs.declared.opcodes.Opcode.TheVariants as opcode
use Rattle.clif_words.specs.Opcodes.{opcode_of}
use Rattle.clif_words.specs.Table.{all_words}
use Rattle.clif_words.specs.Words.{word_meaning}
use Rattle.text_read_back.specs.RawOf as raws
use Rattle.text_read_back.proofs.Bytes.{at_8, at_16, at_32}

-- a text's word is this opcode
abbrev pub Spells : List ℕ → Opcode → Type 0
Spells w o = (raws.opcode w).kind ≡ o

pub uload_8 : Spells (codes "uload" ++ decimal 8) opcode.Uload8
unfolding word_meaning all_words opcode_of
uload_8 = rw at_8 refl

pub sload_8 : Spells (codes "sload" ++ decimal 8) opcode.Sload8
unfolding word_meaning all_words opcode_of
sload_8 = rw at_8 refl

pub uload_16 : Spells (codes "uload" ++ decimal 16) opcode.Uload16
unfolding word_meaning all_words opcode_of
uload_16 = rw at_16 refl

pub sload_16 : Spells (codes "sload" ++ decimal 16) opcode.Sload16
unfolding word_meaning all_words opcode_of
sload_16 = rw at_16 refl

pub uload_32 : Spells (codes "uload" ++ decimal 32) opcode.Uload32
unfolding word_meaning all_words opcode_of
uload_32 = rw at_32 refl

pub sload_32 : Spells (codes "sload" ++ decimal 32) opcode.Sload32
unfolding word_meaning all_words opcode_of
sload_32 = rw at_32 refl

pub istore_8 : Spells (codes "istore" ++ decimal 8) opcode.Istore8
unfolding word_meaning all_words opcode_of
istore_8 = rw at_8 refl

pub istore_16 : Spells (codes "istore" ++ decimal 16) opcode.Istore16
unfolding word_meaning all_words opcode_of
istore_16 = rw at_16 refl

pub istore_32 : Spells (codes "istore" ++ decimal 32) opcode.Istore32
unfolding word_meaning all_words opcode_of
istore_32 = rw at_32 refl

-- ---- operations

abbrev pub plain_opcode : Op → Opcode
plain_opcode ops.Iadd = opcode.Iadd
plain_opcode ops.Isub = opcode.Isub
plain_opcode ops.Imul = opcode.Imul
plain_opcode ops.Band = opcode.Band
plain_opcode ops.Bor = opcode.Bor
plain_opcode ops.Bxor = opcode.Bxor
plain_opcode ops.Smin = opcode.Smin
plain_opcode ops.Smax = opcode.Smax
plain_opcode ops.Umin = opcode.Umin
plain_opcode ops.Umax = opcode.Umax
plain_opcode ops.Umulhi = opcode.Umulhi
plain_opcode ops.Smulhi = opcode.Smulhi
plain_opcode ops.Udiv = opcode.Udiv
plain_opcode ops.Urem = opcode.Urem
plain_opcode ops.Sdiv = opcode.Sdiv
plain_opcode ops.Srem = opcode.Srem
plain_opcode ops.Ishl = opcode.Ishl
plain_opcode ops.Ushr = opcode.Ushr
plain_opcode ops.Sshr = opcode.Sshr
plain_opcode ops.Rotl = opcode.Rotl
plain_opcode ops.Rotr = opcode.Rotr
plain_opcode ops.UaddOverflow = opcode.UaddOverflow
plain_opcode ops.SaddOverflow = opcode.SaddOverflow
plain_opcode ops.UsubOverflow = opcode.UsubOverflow
plain_opcode ops.SsubOverflow = opcode.SsubOverflow
plain_opcode ops.Iconcat = opcode.Iconcat
plain_opcode ops.Ineg = opcode.Ineg
plain_opcode ops.Bnot = opcode.Bnot
plain_opcode ops.Iabs = opcode.Iabs
plain_opcode ops.Clz = opcode.Clz
plain_opcode ops.Ctz = opcode.Ctz
plain_opcode ops.Popcnt = opcode.Popcnt
plain_opcode ops.Bitrev = opcode.Bitrev
plain_opcode ops.Bswap = opcode.Bswap
plain_opcode ops.Isplit = opcode.Isplit
plain_opcode ops.Select = opcode.Select
plain_opcode (ops.Icmp cc) = opcode.Icmp
plain_opcode (ops.Uextend w) = opcode.Uextend
plain_opcode (ops.Sextend w) = opcode.Sextend
plain_opcode (ops.Ireduce w) = opcode.Ireduce

pub op_spells : (o : Op) → Spells (op_word o) (plain_opcode o)
unfolding word_meaning all_words opcode_of
op_spells ops.Iadd = refl
op_spells ops.Isub = refl
op_spells ops.Imul = refl
op_spells ops.Band = refl
op_spells ops.Bor = refl
op_spells ops.Bxor = refl
op_spells ops.Smin = refl
op_spells ops.Smax = refl
op_spells ops.Umin = refl
op_spells ops.Umax = refl
op_spells ops.Umulhi = refl
op_spells ops.Smulhi = refl
op_spells ops.Udiv = refl
op_spells ops.Urem = refl
op_spells ops.Sdiv = refl
op_spells ops.Srem = refl
op_spells ops.Ishl = refl
op_spells ops.Ushr = refl
op_spells ops.Sshr = refl
op_spells ops.Rotl = refl
op_spells ops.Rotr = refl
op_spells ops.UaddOverflow = refl
op_spells ops.SaddOverflow = refl
op_spells ops.UsubOverflow = refl
op_spells ops.SsubOverflow = refl
op_spells ops.Iconcat = refl
op_spells ops.Ineg = refl
op_spells ops.Bnot = refl
op_spells ops.Iabs = refl
op_spells ops.Clz = refl
op_spells ops.Ctz = refl
op_spells ops.Popcnt = refl
op_spells ops.Bitrev = refl
op_spells ops.Bswap = refl
op_spells ops.Isplit = refl
op_spells ops.Select = refl
op_spells (ops.Icmp cc) = refl
op_spells (ops.Uextend w) = refl
op_spells (ops.Sextend w) = refl
op_spells (ops.Ireduce w) = refl

pub nop_spells : Spells (codes "nop") opcode.Nop
unfolding word_meaning all_words opcode_of
nop_spells = refl

pub sequence_point_spells : Spells (codes "sequence_point") opcode.SequencePoint
unfolding word_meaning all_words opcode_of
sequence_point_spells = refl

pub load_spells : Spells (codes "load") opcode.Load
unfolding word_meaning all_words opcode_of
load_spells = refl

pub store_spells : Spells (codes "store") opcode.Store
unfolding word_meaning all_words opcode_of
store_spells = refl

pub trapz_spells : Spells (codes "trapz") opcode.Trapz
unfolding word_meaning all_words opcode_of
trapz_spells = refl

pub trapnz_spells : Spells (codes "trapnz") opcode.Trapnz
unfolding word_meaning all_words opcode_of
trapnz_spells = refl

pub call_spells : Spells (codes "call") opcode.Call
unfolding word_meaning all_words opcode_of
call_spells = refl

pub return_call_spells : Spells (codes "return_call") opcode.ReturnCall
unfolding word_meaning all_words opcode_of
return_call_spells = refl

pub call_indirect_spells : Spells (codes "call_indirect") opcode.CallIndirect
unfolding word_meaning all_words opcode_of
call_indirect_spells = refl

pub return_call_indirect_spells : Spells (codes "return_call_indirect") opcode.ReturnCallIndirect
unfolding word_meaning all_words opcode_of
return_call_indirect_spells = refl

abbrev pub immediate_opcode : Op → Opcode
immediate_opcode ops.Iadd = opcode.IaddImm
immediate_opcode ops.Imul = opcode.ImulImm
immediate_opcode ops.Band = opcode.BandImm
immediate_opcode ops.Bor = opcode.BorImm
immediate_opcode ops.Bxor = opcode.BxorImm
immediate_opcode ops.Ishl = opcode.IshlImm
immediate_opcode ops.Ushr = opcode.UshrImm
immediate_opcode ops.Sshr = opcode.SshrImm
immediate_opcode (ops.Icmp cc) = opcode.IcmpImm
immediate_opcode o = opcode.Nop
