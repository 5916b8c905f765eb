-- What a module's own raw module means: instruction by instruction and line by line, under the numbers that the words
-- of the text have.
use Rattle.std.specs.Prelude.{◌≡◌, ◌<◌, ◌==◌, ⊤, ℕ, Bool, true, false, map, flat_map, Option, Some, None}
use Rattle.clk_num.specs.declared.width.Width.{Width}
use Rattle.ir_core.specs.declared.instructions.Access.{Access}
use Rattle.ir_core.specs.declared.instructions.Access.TheVariants.{Full, Uload, Sload}
use Rattle.ir_core.specs.declared.signatures.Ty.{Ty}
use Rattle.ir_core.specs.Lists.{In, Each}
use Rattle.ir_core.specs.Lookup.{type_of, ty_of, definitions, number_in}
use Rattle.ir_core.specs.Module.{Simple, Const, Pure, PureImm, Load, StackLoad, Instruction, Plain, Line, Function}
use Rattle.ir_core.specs.WellFormed.{LineWellFormed, WellFormed}
use Rattle.ir_semantics.specs.Canon.{canonical_names}
use Rattle.ir_semantics.specs.Renaming.{Renaming, instruction_under, line_under}
use Rattle.ir_text.specs.Numbering.{Numbering, numbering_of}
use Rattle.ir_text.specs.TextInstructions.{shown_suffix, typing_operand}
use Rattle.ir_text.specs.Writable.{conversion, InstructionForm}
use Rattle.clif_insts.specs.declared.raw.RawInst.{RawInst}
use Rattle.name_tables.specs.Chains.{numbered, IsNumbering}
use Rattle.name_tables.specs.Definitions.{value_defs}
use Rattle.name_tables.specs.Words.{place_in}
use Rattle.clif_meaning.specs.Instructions.{instruction_of, type_for, known, line_of}
use Rattle.clif_meaning.specs.Meaning.{numbers, name_of, sig_of, decl_slots, decl_sigs, callees_from}
use Rattle.text_read_back.specs.RawOf.{instruction, debug_tag, values, raw_function}

-- the numbers that a text gives, and after them what the text's numbers mean
abbrev pub read_under : Numbering → Renaming → Renaming
read_under n at = record {
  value = λ v. at.value (number_in n.values v);
  block = λ b. at.block (number_in n.blocks b);
  slot = at.slot;
  sig = at.sig;
  callee = at.callee;
}

-- ---- t is the type that a reader takes for an instruction, where its meaning depends on it

abbrev pub ConversionType : Ty → Option Width → Type 0
ConversionType t None = ⊤
ConversionType t (Some w) = t ≡ ty_of w

-- a narrow read of 32 bits gives i64 whatever its suffix
abbrev pub NarrowType : Bool → Ty → Ty → Type 0
NarrowType true t u = ⊤
NarrowType false t u = t ≡ u

abbrev pub AccessType : Ty → Access → Type 0
AccessType t (Full u) = t ≡ u
AccessType t (Uload u bytes) = NarrowType (bytes == 4) t u
AccessType t (Sload u bytes) = NarrowType (bytes == 4) t u

abbrev pub SimpleType : Ty → Simple → Type 0
SimpleType t (Const d) = t ≡ ty_of d.width
SimpleType t (Pure o args) = ConversionType t (conversion o)
SimpleType t (PureImm o x d) = t ≡ ty_of d.width
SimpleType t (Load from flags p offset) = AccessType t from
SimpleType t (StackLoad u slot offset) = t ≡ u
SimpleType t i = ⊤

abbrev pub IsTypeFor : Ty → Instruction → Type 0
IsTypeFor t (Plain i) = SimpleType t i
IsTypeFor t i = ⊤

-- ---- laws

-- a line's instruction as it is printed where the next value that is defined has the number next
abbrev pub printed : Function → Numbering → ℕ → Line → RawInst
printed f n next l = instruction n (shown_suffix f n next l.ty (typing_operand l.inst)) l.inst

-- s is the suffix that is printed, t the type that a reader takes
abbrev pub InstructionsReadBack : Type 0
InstructionsReadBack =
    (n : Numbering) (at : Renaming) (f : Function) (l : Line) (s : Option Ty) (t : Ty) (i : Instruction)
    → InstructionForm f l i → IsTypeFor t i
    → instruction_of at (instruction n s i).opcode.kind t (instruction n s i).operands
    ≡ instruction_under (read_under n at) i

-- type has the types of the values that are defined before the line
abbrev pub LinesReadBack : Type 0
LinesReadBack =
    (f : Function) (n : Numbering) (at : Renaming) (type : ℕ → Option Ty) (next : ℕ)
    → ((v : ℕ) → number_in n.values v < next → type (at.value (number_in n.values v)) ≡ type_of f v)
    → (l : Line) → InstructionForm f l l.inst
    → line_of at (known (type_for type at (printed f n next l))) (map debug_tag l.tags) (values n l.results)
    (printed f n next l)
    ≡ line_under (read_under n at) l

-- the number of a word of a value: its place among the definitions
abbrev pub value_number : Function → ℕ → ℕ
value_number f = place_in (numbered (value_defs (raw_function f)))

abbrev pub NumberingIs : Type 0
NumberingIs = (f : Function) → WellFormed f → IsNumbering (value_defs (raw_function f)) (value_number f)

abbrev pub DeclarationsReadBack : Type 0
DeclarationsReadBack = (f : Function) →
    (name_of (raw_function f).name ≡ f.name) × (sig_of (raw_function f).signature ≡ f.sig)
    × (flat_map decl_slots (raw_function f).decls ≡ f.slots)
    × (map (λ s. s.1) (flat_map decl_sigs (raw_function f).decls) ≡ f.sigs)

abbrev pub CalleesReadBack : Type 0
CalleesReadBack = (f : Function) → WellFormed f
    → callees_from (numbers (raw_function f) (value_number f)).sig 0 (raw_function f).decls ≡ f.callees

abbrev pub LinesAreCanonical : Type 0
LinesAreCanonical = (f : Function) → WellFormed f → (l : Line) → LineWellFormed f l
    → Each (λ v. In v (definitions f.blocks)) l.results
    → line_under (read_under (numbering_of f) (numbers (raw_function f) (value_number f))) l
    ≡ line_under (canonical_names f) l
