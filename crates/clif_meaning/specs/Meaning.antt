-- The module that a raw module without a fault means. Values are numbered in order of definition in the text without
-- the alias lines, blocks, slots and callees by their place, signatures by their place with an inline one at its `fn`
-- line.
use Rattle.std.specs.Prelude.{◌≡◌, ◌≢◌, ℕ, suc, List, [], ◌∷◌, Option, None, Some, map, flat_map, fold, nat_eq, Bool}
use Rattle.std.specs.Prelude.{false}
use Rattle.std.specs.Prelude.{if◌then◌else◌}
use Rattle.std.specs.List.{enumerate_from}
use Rattle.clk_num.specs.declared.op.Op.{Op}
use Rattle.clk_num.specs.declared.width.Width.{Width}
use Rattle.ir_core.specs.declared.names.FuncName.{FuncName}
use Rattle.ir_core.specs.declared.names.FuncName.TheVariants as name
use Rattle.ir_core.specs.declared.signatures.Ty.{Ty}
use Rattle.ir_core.specs.declared.signatures.Ty.TheVariants.{I8, I64}
use Rattle.ir_core.specs.declared.signatures.Conv.{Conv}
use Rattle.ir_core.specs.declared.signatures.Conv.TheVariants.{Fast}
use Rattle.ir_core.specs.declared.signatures.Ext.TheVariants as ext
use Rattle.ir_core.specs.declared.signatures.Purpose.TheVariants as purpose
use Rattle.ir_core.specs.declared.signatures.Param.{Param}
use Rattle.ir_core.specs.declared.signatures.Sig.{Sig}
use Rattle.ir_core.specs.declared.declarations.SlotDecl.{SlotDecl}
use Rattle.ir_core.specs.declared.declarations.Callee.{Callee}
use Rattle.ir_core.specs.Module.{Simple, Nop, Const, Pure, PureImm, Load, Store, StackLoad, StackStore, FuncAddr, Trap}
use Rattle.ir_core.specs.Module.{Trapz, Trapnz, Instruction, Plain, Call, Line, Block, Function, Module}
use Rattle.ir_core.specs.Lookup.{type_in, signature_of, param_types, ty_of}
use Rattle.ir_core.specs.Forms.{access_type}
use Rattle.ir_semantics.specs.Renaming.{Renaming}
use Rattle.ir_core.specs.Lists.{Each}
use Rattle.ir_core.specs.Size.{size_of}
use Rattle.ir_core.specs.WellFormed.{IsModule}
use Rattle.ir_text.specs.Writable.{result_types, conversion}
use Rattle.token_reader.specs.declared.raw.RawName.{RawName}
use Rattle.token_reader.specs.declared.raw.RawNumber.{RawNumber}
use Rattle.clif_insts.specs.declared.raw.RawInst.{RawInst}
use Rattle.clif_read.specs.declared.raw.RawAttribute.{RawAttribute}
use Rattle.clif_read.specs.declared.raw.RawAttribute.TheVariants as attribute
use Rattle.clif_read.specs.declared.raw.RawParam.{RawParam}
use Rattle.clif_read.specs.declared.raw.RawSignature.{RawSignature}
use Rattle.clif_read.specs.declared.raw.RawFuncName.{RawFuncName}
use Rattle.clif_read.specs.declared.raw.RawFuncName.TheVariants as func_name
use Rattle.clif_read.specs.declared.raw.RawCalleeSig.{RawCalleeSig}
use Rattle.clif_read.specs.declared.raw.RawCalleeSig.TheVariants as callee_sig
use Rattle.clif_read.specs.declared.raw.RawDecl.{RawDecl}
use Rattle.clif_read.specs.declared.raw.RawDecl.TheVariants as decl
use Rattle.clif_read.specs.declared.raw.RawLine.{RawLine}
use Rattle.clif_read.specs.declared.raw.RawLine.TheVariants as line
use Rattle.clif_read.specs.declared.raw.RawBlock.{RawBlock}
use Rattle.clif_read.specs.declared.raw.RawFunction.{RawFunction}
use Rattle.clif_read.specs.declared.raw.RawModule.{RawModule}
use Rattle.name_tables.specs.Definitions.{Slots, Callees, Blocks, Step, Param as Parameter, Line as Written, steps}
use Rattle.name_tables.specs.Definitions.{definitions, value_defs}
use Rattle.name_tables.specs.Words.{place_in}
use Rattle.clif_names.specs.Sizes.{raw_size}
use Rattle.name_tables.specs.Chains.{IsNumbering}
use Rattle.clif_names.specs.Faults.{NoFault}
use Rattle.clif_meaning.specs.Instructions.{natural, type_for, known, line_of}

-- ---- names and signatures

abbrev pub name_of : RawFuncName → FuncName
name_of (func_name.Text bytes spot) = name.Text bytes
name_of (func_name.User space number) = name.User space.number (natural number.value)

abbrev pub with_attribute : Param → RawAttribute → Param
with_attribute p attribute.Uext = record p { ext = ext.Uext }
with_attribute p attribute.Sext = record p { ext = ext.Sext }
with_attribute p attribute.Vmctx = record p { purpose = purpose.Vmctx }
with_attribute p attribute.Sret = record p { purpose = purpose.Sret }

abbrev pub param_of : RawParam → Param
param_of p = fold with_attribute (record { ty = p.ty; ext = ext.No; purpose = purpose.Normal }) p.attributes

abbrev pub conv_of : Option Conv → Conv
conv_of None = Fast
conv_of (Some c) = c

abbrev pub sig_of : RawSignature → Sig
sig_of s = record { params = map param_of s.params; results = map param_of s.results; conv = conv_of s.conv }

-- ---- declarations

abbrev pub alignment : Option RawNumber → ℕ
alignment None = 1
alignment (Some n) = natural n.value

abbrev pub decl_slots : RawDecl → List SlotDecl
decl_slots (decl.Slot n size align) = record { size = natural size.value; align = alignment align } ∷ []
decl_slots (decl.Sig n signature) = []
decl_slots (decl.Callee colocated n sig name) = []

-- the signatures that a declaration has, and their words: an inline one has none
abbrev pub inline_sigs : RawCalleeSig → List (Option RawName × Sig)
inline_sigs (callee_sig.Declared n) = []
inline_sigs (callee_sig.Inline signature) = (None, sig_of signature) ∷ []

abbrev pub decl_sigs : RawDecl → List (Option RawName × Sig)
decl_sigs (decl.Slot n size align) = []
decl_sigs (decl.Sig n signature) = (Some n, sig_of signature) ∷ []
decl_sigs (decl.Callee colocated n sig name) = inline_sigs sig

abbrev pub is_word : ℕ → Option RawName → Bool
is_word n None = false
is_word n (Some x) = nat_eq n x.number

-- the place of a signature's word
abbrev pub sig_place : List (Option RawName × Sig) → ℕ → ℕ
sig_place [] n = 0
sig_place (s ∷ ss) n = if is_word n s.0 then 0 else suc (sig_place ss n)

-- callees, where count signatures stand before them and sig has the number of a signature's word
abbrev pub callees_from : (ℕ → ℕ) → ℕ → List RawDecl → List Callee
callees_from sig count [] = []
callees_from sig count (decl.Slot n size align ∷ ds) = callees_from sig count ds
callees_from sig count (decl.Sig n signature ∷ ds) = callees_from sig (suc count) ds
callees_from sig count (decl.Callee colocated n (callee_sig.Declared s) name ∷ ds) =
    record { name = name_of name; colocated = colocated; sig = sig s.number } ∷ callees_from sig count ds
callees_from sig count (decl.Callee colocated n (callee_sig.Inline signature) name ∷ ds) =
    record { name = name_of name; colocated = colocated; sig = count } ∷ callees_from sig (suc count) ds

-- the number of each word's entity, with those of values as given
abbrev pub numbers : RawFunction → (ℕ → ℕ) → Renaming
numbers f value = record {
  value = value;
  block = place_in (definitions f Blocks);
  slot = place_in (definitions f Slots);
  sig = sig_place (flat_map decl_sigs f.decls);
  callee = place_in (definitions f Callees);
}

-- ---- types of results

abbrev pub operation_types : Op → Ty → Option Width → List Ty
operation_types o t None = result_types o t
operation_types o t (Some w) = ty_of w ∷ []

abbrev pub simple_types : Simple → Ty → List Ty
simple_types Nop t = []
simple_types (Const x) t = ty_of x.width ∷ []
simple_types (Pure o args) t = operation_types o t (conversion o)
simple_types (PureImm o a x) t = result_types o t
simple_types (Load access flags a offset) t = access_type access ∷ []
simple_types (Store narrow flags v a offset) t = []
simple_types (StackLoad ty k offset) t = ty ∷ []
simple_types (StackStore v k offset) t = []
simple_types (FuncAddr k) t = I64 ∷ []
simple_types (Trap c) t = []
simple_types (Trapz v c) t = []
simple_types (Trapnz v c) t = []

abbrev pub sig_results : Option Sig → List Ty
sig_results None = []
sig_results (Some s) = param_types s.results

-- the types that a form gives to its results, in a function with these declarations
abbrev pub form_types : Function → Instruction → Ty → List Ty
form_types f (Plain p) t = simple_types p t
form_types f (Call target args) t = sig_results (signature_of f target)
form_types f i t = []

-- one type for each result written, and i8 past those of the form
abbrev pub types_for : List RawName → List Ty → List Ty
types_for [] ts = []
types_for (r ∷ rs) [] = I8 ∷ types_for rs []
types_for (r ∷ rs) (t ∷ ts) = t ∷ types_for rs ts

-- ---- a function, where the numbers and the types of its values are given

module _ (raw : RawFunction) (value : ℕ → ℕ) (types : List (ℕ × Ty)) where
  abbrev pub at : Renaming
  at = numbers raw value

  abbrev pub inst_type : RawInst → Ty
  inst_type inst = known (type_for (type_in types) at inst)

  abbrev pub lines_with : RawLine → List Line
  lines_with (line.Alias location n m) = []
  lines_with (line.Inst location tags results inst) = line_of at (inst_type inst) tags results inst ∷ []

  abbrev pub block_with : ℕ × RawBlock → Block
  block_with b = record {
    number = b.0;
    params = map (λ p. value p.value.number) b.1.params;
    lines = flat_map lines_with b.1.lines;
  }

  abbrev pub function_with : Function
  function_with = record {
    name = name_of raw.name;
    sig = sig_of raw.signature;
    slots = flat_map decl_slots raw.decls;
    sigs = map (λ s. s.1) (flat_map decl_sigs raw.decls);
    callees = callees_from at.sig 0 raw.decls;
    types = types;
    blocks = map block_with (enumerate_from 0 raw.blocks);
  }

  -- the types of the values in order of definition
  abbrev pub line_types : RawLine → List Ty
  line_types (line.Alias location n m) = []
  line_types (line.Inst location tags results inst) =
      types_for results (form_types function_with (line_of at (inst_type inst) tags results inst).inst (inst_type inst))

  abbrev pub step_types : Step → List Ty
  step_types (Parameter p) = p.ty ∷ []
  step_types (Written l) = line_types l

  abbrev pub value_types : List Ty
  value_types = flat_map step_types (steps raw)

-- The function is the one that is written, each word's value being that at its chain's end, and its values have the
-- types that are written or that the forms give, where the types that are left out are those of its own values.
pub record FunctionMeans (raw : RawFunction) (f : Function) : Type 0 where
  pub value : ℕ → ℕ
  pub numbering : IsNumbering (value_defs raw) value
  pub function : f ≡ function_with raw value f.types
  pub types : f.types ≡ enumerate_from 0 (value_types raw value f.types)

abbrev pub FunctionsMean : List RawFunction → List Function → Type 0
FunctionsMean [] [] = Unit {0}
FunctionsMean (r ∷ rs) (f ∷ fs) = FunctionMeans r f × FunctionsMean rs fs
FunctionsMean [] (f ∷ fs) = ⊥
FunctionsMean (r ∷ rs) [] = ⊥

abbrev pub Means : RawModule → Module → Type 0
Means raw m = FunctionsMean raw.functions m

-- ---- laws

-- the size that a raw function has is that of the function which it means
abbrev pub SameSize : Type 0
SameSize = (raw : RawFunction) (f : Function) → FunctionMeans raw f → size_of f ≡ raw_size raw

abbrev pub OneMeaning : Type 0
OneMeaning = (raw : RawModule) (m n : Module) → NoFault raw → Means raw m → Means raw n → m ≡ n

-- each function has a block, as the grammar has it
abbrev pub HasBlocks : RawModule → Type 0
HasBlocks raw = Each (λ (f : RawFunction). f.blocks ≢ []) raw.functions

abbrev pub MeantIsModule : Type 0
MeantIsModule = (raw : RawModule) (m : Module) → NoFault raw → HasBlocks raw → Means raw m → IsModule m

abbrev pub HasMeaning : Type 0
HasMeaning = (raw : RawModule) → NoFault raw → (m : Module) × Means raw m
