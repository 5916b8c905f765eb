-- What the grammar sees of the words and the tokens of the code: the class, and which of its words it is.
use Rattle.std.specs.Prelude.{ℕ, List}
use Rattle.clk_num.specs.declared.op.Cc.{Cc}
use Rattle.clk_num.specs.declared.op.Cc.TheVariants as cc
use Rattle.ir_core.specs.declared.signatures.Conv.{Conv}
use Rattle.ir_core.specs.declared.signatures.Conv.TheVariants as conv
use Rattle.ir_core.specs.declared.signatures.Ty.{Ty}
use Rattle.ir_core.specs.declared.signatures.Ty.TheVariants as ty
use Rattle.clif_words.specs.declared.class.Class.{Class}
use Rattle.clif_words.specs.declared.class.Class.TheVariants as classes
use Rattle.clif_words.specs.declared.meanings.Entity.{Entity}
use Rattle.clif_words.specs.declared.meanings.Entity.TheVariants as entities
use Rattle.clif_words.specs.declared.meanings.Extension.{Extension}
use Rattle.clif_words.specs.declared.meanings.Extension.TheVariants as extensions
use Rattle.clif_words.specs.declared.meanings.Flag.{Flag}
use Rattle.clif_words.specs.declared.meanings.Flag.TheVariants as flags
use Rattle.clif_words.specs.declared.meanings.Terminal.{Terminal}
use Rattle.clif_words.specs.declared.meanings.Terminal.TheVariants as terminals
use Rattle.clif_words.specs.declared.meanings.NamedTrap.{NamedTrap}
use Rattle.clif_words.specs.declared.meanings.NamedTrap.TheVariants as traps
use Rattle.clif_words.specs.declared.meanings.Word.{Word}
use Rattle.clif_words.specs.declared.meanings.Word.TheVariants as words
use Rattle.clif_words.specs.declared.opcodes.Opcode.{Opcode}
use Rattle.clif_words.specs.declared.opcodes.OpcodeRow.{OpcodeRow}
use Rattle.clif_words.specs.declared.words.Entry.{Entry}
use Rattle.clif_words.specs.declared.words.Stem.{Stem}
use Rattle.clif_words.specs.OpcodeForms.{form}
use Rattle.clif_words.specs.Opcodes.{place}
use Rattle.clif_words.specs.Table.{Row}
use Rattle.clif_words.specs.Words.{Meaning, means}

abbrev pub seen_opcode : Opcode → Meaning
seen_opcode opcode = means (form opcode) (place opcode)

abbrev pub seen_convention : Conv → Meaning
seen_convention conv.Fast = means classes.Conv 0
seen_convention conv.Tail = means classes.Conv 1
seen_convention conv.SystemV = means classes.Conv 2
seen_convention conv.WindowsFastcall = means classes.Conv 3
seen_convention conv.AppleAarch64 = means classes.Conv 4
seen_convention conv.Probestack = means classes.Conv 5
seen_convention conv.Winch = means classes.Conv 6
seen_convention conv.Cold = means classes.Cold 0

abbrev pub seen_type : Ty → Meaning
seen_type ty.I8 = means classes.Ty 0
seen_type ty.I16 = means classes.Ty 1
seen_type ty.I32 = means classes.Ty 2
seen_type ty.I128 = means classes.Ty 3
seen_type ty.I64 = means classes.TyI64 0

abbrev pub extension_place : Extension → ℕ
extension_place extensions.Uext = 0
extension_place extensions.Sext = 1

abbrev pub flag_place : Flag → ℕ
flag_place flags.Notrap = 0
flag_place flags.Aligned = 1
flag_place flags.Readonly = 2
flag_place flags.CanMove = 3
flag_place flags.Heap = 4
flag_place flags.Table = 5

abbrev pub trap_place : NamedTrap → ℕ
trap_place traps.StkOvf = 0
trap_place traps.IntOvf = 1
trap_place traps.HeapOob = 2
trap_place traps.IntDivz = 3
trap_place traps.BadToint = 4

abbrev pub condition_place : Cc → ℕ
condition_place cc.Eq = 0
condition_place cc.Ne = 1
condition_place cc.Slt = 2
condition_place cc.Sge = 3
condition_place cc.Sgt = 4
condition_place cc.Sle = 5
condition_place cc.Ult = 6
condition_place cc.Uge = 7
condition_place cc.Ugt = 8
condition_place cc.Ule = 9

abbrev pub entity_class : Entity → Class
entity_class entities.Value = classes.Value
entity_class entities.Block = classes.Block
entity_class entities.Slot = classes.Slot
entity_class entities.Sig = classes.Sig
entity_class entities.Callee = classes.Callee
entity_class entities.Tag = classes.Tag
entity_class entities.Ret = classes.Ret
entity_class entities.Exn = classes.Exn
entity_class entities.UserName = classes.UserName
entity_class entities.UserTrap = classes.UserTrap

-- an entity's word is seen with its own number
abbrev pub seen_word : Word → Meaning
seen_word (words.Opcode opcode) = seen_opcode opcode
seen_word words.RefusedOpcode = means classes.RefusedOpcode 0
seen_word words.Function = means classes.Function 0
seen_word (words.Conv convention) = seen_convention convention
seen_word (words.Ty t) = seen_type t
seen_word words.RefusedType = means classes.RefusedType 0
seen_word (words.Ext extension) = means classes.Ext (extension_place extension)
seen_word words.Vmctx = means classes.Vmctx 0
seen_word words.Sret = means classes.Sret 0
seen_word words.ExplicitSlot = means classes.ExplicitSlot 0
seen_word words.Align = means classes.Align 0
seen_word words.Colocated = means classes.Colocated 0
seen_word words.RefusedDecl = means classes.RefusedDecl 0
seen_word words.Default = means classes.Default 0
seen_word words.Context = means classes.Context 0
seen_word (words.Flag flag) = means classes.Flag (flag_place flag)
seen_word words.Little = means classes.Little 0
seen_word words.Big = means classes.Big 0
seen_word (words.TrapCode code) = means classes.TrapCode (trap_place code)
seen_word (words.Condition condition) = means classes.Condition (condition_place condition)
seen_word (words.Entity entity number) = means (entity_class entity) number
seen_word words.Other = means classes.Other 0

-- of a token that is no word only the class counts
abbrev pub seen : Terminal → Meaning
seen (terminals.Word word) = seen_word word
seen terminals.Header = means classes.Header 0
seen terminals.Name = means classes.Name 0
seen terminals.Unsigned = means classes.Unsigned 0
seen terminals.Signed = means classes.Signed 0
seen terminals.Srcloc = means classes.Srcloc 0
seen terminals.Arrow = means classes.Arrow 0
seen terminals.LeftParen = means classes.LeftParen 0
seen terminals.RightParen = means classes.RightParen 0
seen terminals.LeftBrace = means classes.LeftBrace 0
seen terminals.RightBrace = means classes.RightBrace 0
seen terminals.LeftBracket = means classes.LeftBracket 0
seen terminals.RightBracket = means classes.RightBracket 0
seen terminals.Comma = means classes.Comma 0
seen terminals.Colon = means classes.Colon 0
seen terminals.Equals = means classes.Equals 0
seen terminals.Dot = means classes.Dot 0
seen terminals.Less = means classes.Less 0
seen terminals.Greater = means classes.Greater 0
seen terminals.Other = means classes.Other 0

-- the rows of the tables, as the grammar has them
abbrev pub row : List ℕ → Meaning → Row
row word m = record { word = word; class = m.class; number = m.number }

abbrev pub opcode_row : OpcodeRow → Row
opcode_row r = row r.0.now (seen_opcode r.1)

abbrev pub word_row : Entry → Row
word_row r = row r.0.now (seen_word r.1)

abbrev pub stem_row : Stem → Row
stem_row r = row r.0.now (means (entity_class r.1) 0)
