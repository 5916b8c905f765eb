-- The raw module that a module's canonical text is, without spots: for each form of the text what it says, under the
-- name that the text has for how it is written.
use Rattle.std.specs.Prelude.{ℕ, zero, suc, ◌+◌, ◌*◌, ◌==◌, ℤ, pos, negsuc, Bool, false, if◌then◌else◌, List, [], ◌∷◌}
use Rattle.std.specs.Prelude.{◌++◌, map, length, codes, decimal, Option, Some, None}
use Rattle.clk_num.specs.Numbers.{signed}
use Rattle.clk_num.specs.Operations.{DataValue}
use Rattle.clk_num.specs.Width.{bits_of}
use Rattle.clk_num.specs.declared.op.Op.{Op}
use Rattle.clk_num.specs.declared.op.Op.TheVariants.{Icmp, Uextend, Sextend, Ireduce}
use Rattle.clk_num.specs.declared.op.TrapCode.{TrapCode}
use Rattle.clk_num.specs.declared.op.TrapCode.TheVariants as trap
use Rattle.exn_tables.specs.declared.table.Entry.{Entry}
use Rattle.debug_tags.specs.declared.tags.Tag.{Tag}
use Rattle.debug_tags.specs.declared.tags.Tag.TheVariants as tag
use Rattle.ir_core.specs.declared.declarations.Callee.{Callee}
use Rattle.ir_core.specs.declared.declarations.SlotDecl.{SlotDecl}
use Rattle.ir_core.specs.declared.instructions.Access.{Access}
use Rattle.ir_core.specs.declared.instructions.Access.TheVariants as access
use Rattle.ir_core.specs.declared.instructions.Arg.{Arg}
use Rattle.ir_core.specs.declared.instructions.Arg.TheVariants as arg
use Rattle.ir_core.specs.declared.instructions.BlockCall.{BlockCall}
use Rattle.ir_core.specs.declared.instructions.Flags.{Flags}
use Rattle.ir_core.specs.declared.names.FuncName.{FuncName}
use Rattle.ir_core.specs.declared.names.FuncName.TheVariants as name
use Rattle.ir_core.specs.declared.signatures.Ext.{Ext}
use Rattle.ir_core.specs.declared.signatures.Ext.TheVariants as ext
use Rattle.ir_core.specs.declared.signatures.Param.{Param}
use Rattle.ir_core.specs.declared.signatures.Purpose.{Purpose}
use Rattle.ir_core.specs.declared.signatures.Purpose.TheVariants as purpose
use Rattle.ir_core.specs.declared.signatures.Sig.{Sig}
use Rattle.ir_core.specs.declared.signatures.Ty.{Ty}
use Rattle.ir_core.specs.declared.signatures.Ty.TheVariants.{I64}
use Rattle.ir_core.specs.Lookup.{type_of, ty_of, number_in}
use Rattle.ir_core.specs.Module.{Simple, Branch, CallTarget, TryTarget, Instruction, Line, Block, Function, Module}
use Rattle.ir_core.specs.Module.{Nop, Const, Pure, PureImm, Load, Store, StackLoad, StackStore, FuncAddr, Trap, Trapz}
use Rattle.ir_core.specs.Module.{Trapnz, Jump, Brif, BrTable, Direct, Indirect, TryDirect, TryIndirect, Plain, Branches}
use Rattle.ir_core.specs.Module.{SequencePoint, Return, Call, ReturnCall, TryCall}
use Rattle.ir_text.specs.Numbering.{Numbering, numbering_of}
use Rattle.ir_text.specs.TextInstructions.{shown_suffix, typing_operand, next_after}
use Rattle.ir_text.specs.Words.{op_word}
use Rattle.clif_words.specs.Opcodes.{opcode_of}
use Rattle.clif_words.specs.Words.{word_meaning}
use Rattle.clif_insts.specs.InstValues.{raw}
use Rattle.token_reader.specs.declared.raw.RawName.{RawName}
use Rattle.token_reader.specs.declared.raw.RawNumber.{RawNumber}
use Rattle.token_reader.specs.declared.raw.RawOpcode.{RawOpcode}
use Rattle.clif_insts.specs.declared.raw.RawArg.{RawArg}
use Rattle.clif_insts.specs.declared.raw.RawArg.TheVariants as raw_args
use Rattle.clif_insts.specs.declared.raw.RawTarget.{RawTarget}
use Rattle.clif_insts.specs.declared.raw.RawEntry.{RawEntry}
use Rattle.clif_insts.specs.declared.raw.RawFlag.{RawFlag}
use Rattle.clif_insts.specs.declared.raw.RawFlag.TheVariants as raw_flags
use Rattle.clif_insts.specs.declared.raw.RawTrap.{RawTrap}
use Rattle.clif_insts.specs.declared.raw.RawTrap.TheVariants as raw_traps
use Rattle.clif_insts.specs.declared.raw.RawOperands.{RawOperands}
use Rattle.clif_insts.specs.declared.raw.RawOperands.TheVariants as operands
use Rattle.clif_insts.specs.declared.raw.RawInst.{RawInst}
use Rattle.clif_read.specs.declared.raw.RawAttribute.{RawAttribute}
use Rattle.clif_read.specs.declared.raw.RawAttribute.TheVariants as attributes
use Rattle.clif_read.specs.declared.raw.RawParam.{RawParam}
use Rattle.clif_read.specs.declared.raw.RawSignature.{RawSignature}
use Rattle.clif_read.specs.declared.raw.RawFuncName.{RawFuncName}
use Rattle.clif_read.specs.declared.raw.RawFuncName.TheVariants as raw_names
use Rattle.clif_read.specs.declared.raw.RawCalleeSig.TheVariants as callee_sigs
use Rattle.clif_read.specs.declared.raw.RawDecl.{RawDecl}
use Rattle.clif_read.specs.declared.raw.RawDecl.TheVariants as decls
use Rattle.clif_read.specs.declared.raw.RawTag.{RawTag}
use Rattle.clif_read.specs.declared.raw.RawTag.TheVariants as raw_tags
use Rattle.clif_read.specs.declared.raw.RawLine.{RawLine}
use Rattle.clif_read.specs.declared.raw.RawLine.TheVariants as raw_lines
use Rattle.clif_read.specs.declared.raw.RawBlockParam.{RawBlockParam}
use Rattle.clif_read.specs.declared.raw.RawBlock.{RawBlock}
use Rattle.clif_read.specs.declared.raw.RawFunction.{RawFunction}
use Rattle.clif_read.specs.declared.raw.RawModule.{RawModule}

-- an entity, a tag or a result by its number
abbrev pub entity : ℕ → RawName
entity number = record { number = number; spot = 0 }

-- the opcode that a word is
abbrev pub opcode : List ℕ → RawOpcode
opcode word = record { kind = opcode_of (word_meaning word).number; spot = 0 }

abbrev pub number : ℤ → RawNumber
number z = record { value = z; spot = 0 }

-- ---- names, signatures and declarations

abbrev pub function_name : FuncName → RawFuncName
function_name (name.Text bytes) = raw_names.Text bytes 0
function_name (name.User space index) = raw_names.User (entity space) (number (pos index))

abbrev pub extension : Ext → List RawAttribute
extension ext.No = []
extension ext.Uext = attributes.Uext ∷ []
extension ext.Sext = attributes.Sext ∷ []

abbrev pub purposes : Purpose → List RawAttribute
purposes purpose.Normal = []
purposes purpose.Vmctx = attributes.Vmctx ∷ []
purposes purpose.Sret = attributes.Sret ∷ []

abbrev pub parameter : Param → RawParam
parameter p = record { ty = p.ty; attributes = extension p.ext ++ purposes p.purpose }

abbrev pub signature : Sig → RawSignature
signature s = record { params = map parameter s.params; results = map parameter s.results; conv = Some s.conv }

abbrev pub alignment : ℕ → Option RawNumber
alignment bytes = if bytes == 1 then None else Some (number (pos bytes))

abbrev pub slot_decl : ℕ → SlotDecl → RawDecl
slot_decl k s = decls.Slot (entity k) (number (pos s.size)) (alignment s.align)

abbrev pub sig_decl : ℕ → Sig → RawDecl
sig_decl k s = decls.Sig (entity k) (signature s)

abbrev pub callee_decl : ℕ → Callee → RawDecl
callee_decl k c = decls.Callee c.colocated (entity k) (callee_sigs.Declared (entity c.sig)) (function_name c.name)

-- declarations with their numbers, from k on
abbrev pub numbered : {A : Type 0} → (ℕ → A → RawDecl) → ℕ → List A → List RawDecl
numbered decl k [] = []
numbered decl k (x ∷ xs) = decl k x ∷ numbered decl (k + 1) xs

-- ---- operands

abbrev pub constant : DataValue → RawNumber
constant d = number (signed (bits_of d.width) d.value)

abbrev pub trap_code : TrapCode → RawTrap
trap_code trap.StkOvf = raw_traps.StkOvf
trap_code trap.IntOvf = raw_traps.IntOvf
trap_code trap.HeapOob = raw_traps.HeapOob
trap_code trap.IntDivz = raw_traps.IntDivz
trap_code trap.BadToint = raw_traps.BadToint
trap_code (trap.User k) = raw_traps.User (entity k)

abbrev pub flag : Bool → RawFlag → List RawFlag
flag set which = if set then which ∷ [] else []

-- in the order in which they are written
abbrev pub flags : Flags → List RawFlag
flags f =
    flag f.notrap raw_flags.Notrap ++ (flag f.aligned raw_flags.Aligned ++ (flag f.readonly raw_flags.Readonly
    ++ (flag f.can_move raw_flags.CanMove ++ (flag f.little raw_flags.Little ++ (flag f.big raw_flags.Big
    ++ (flag f.heap raw_flags.Heap ++ (flag f.table raw_flags.Table ++ flag f.vmctx raw_flags.Vmctx)))))))

abbrev pub offset : ℤ → Option RawNumber
offset (pos zero) = None
offset (pos (suc k)) = Some (number (pos (suc k)))
offset (negsuc k) = Some (number (negsuc k))

abbrev pub debug_tag : Tag → RawTag
debug_tag (tag.User k) = raw_tags.User (number (pos k))
debug_tag (tag.Slot slot) = raw_tags.Slot (entity slot)

abbrev pub entry_tag : Option ℕ → Option RawName
entry_tag None = None
entry_tag (Some k) = Some (entity k)

-- n has the numbers of values and blocks
module _ (n : Numbering) where
  abbrev pub value : ℕ → RawName
  value v = entity (number_in n.values v)

  abbrev pub values : List ℕ → List RawName
  values vs = map value vs

  abbrev pub argument : Arg → RawArg
  argument (arg.Value v) = raw_args.Value (value v)
  argument (arg.Ret k) = raw_args.Ret (entity k)
  argument (arg.Exn k) = raw_args.Exn (entity k)

  abbrev pub target : BlockCall → RawTarget
  target t = record { block = entity (number_in n.blocks t.block); args = map argument t.args }

  abbrev pub entry : Entry BlockCall → RawEntry
  entry e = record { tag = entry_tag e.tag; target = target e.target }

  -- the operands of an operation on values, by their number
  abbrev pub value_operands : Op → List ℕ → RawOperands
  value_operands (Icmp cc) (x ∷ y ∷ []) = operands.Compare cc (value x) (value y)
  value_operands op (x ∷ []) = operands.Unary (value x)
  value_operands op (x ∷ y ∷ []) = operands.Binary (value x) (value y)
  value_operands op (c ∷ x ∷ y ∷ []) = operands.Ternary (value c) (value x) (value y)
  value_operands op others = operands.Nullary

  abbrev pub immediate_operands : Op → ℕ → DataValue → RawOperands
  immediate_operands (Icmp cc) x d = operands.CompareImm cc (value x) (constant d)
  immediate_operands op x d = operands.BinaryImm (value x) (constant d)

-- ---- opcodes

-- the suffix of an opcode that says its result's type always stands there
abbrev pub op_suffix : Op → Option Ty → Option Ty
op_suffix (Uextend width) s = Some (ty_of width)
op_suffix (Sextend width) s = Some (ty_of width)
op_suffix (Ireduce width) s = Some (ty_of width)
op_suffix op s = s

abbrev pub but_i64 : Option Ty → Option Ty
but_i64 None = None
but_i64 (Some I64) = None
but_i64 (Some t) = Some t

-- a load that extends 4 bytes leaves out the suffix `i64`
abbrev pub extending_suffix : Option Ty → Ty → ℕ → Option Ty
extending_suffix s t bytes = if bytes == 4 then but_i64 s else Some t

abbrev pub load_suffix : Option Ty → Access → Option Ty
load_suffix s (access.Full t) = Some t
load_suffix s (access.Uload t bytes) = extending_suffix s t bytes
load_suffix s (access.Sload t bytes) = extending_suffix s t bytes

abbrev pub load_word : Access → List ℕ
load_word (access.Full t) = codes "load"
load_word (access.Uload t bytes) = codes "uload" ++ decimal (8 * bytes)
load_word (access.Sload t bytes) = codes "sload" ++ decimal (8 * bytes)

abbrev pub store_word : Option ℕ → List ℕ
store_word None = codes "store"
store_word (Some bytes) = codes "istore" ++ decimal (8 * bytes)

-- ---- instructions; s is the suffix that is written where a form may leave it out

module _ (n : Numbering) where
  abbrev pub simple : Option Ty → Simple → RawInst
  simple s Nop = raw (opcode (codes "nop")) None operands.Nullary
  simple s (Const d) = raw (opcode (codes "iconst")) (Some (ty_of d.width)) (operands.Number (constant d))
  simple s (Pure op args) = raw (opcode (op_word op)) (op_suffix op s) (value_operands n op args)
  simple s (PureImm op x d) = raw (opcode (op_word op ++ codes "_imm")) s (immediate_operands n op x d)
  simple s (Load from f p o) =
      raw (opcode (load_word from)) (load_suffix s from) (operands.Load (flags f) (value n p) (offset o))
  simple s (Store narrow f x p o) =
      raw (opcode (store_word narrow)) s (operands.Store (flags f) (value n x) (value n p) (offset o))
  simple s (StackLoad t slot o) =
      raw (opcode (codes "stack_load")) (Some t) (operands.StackLoad (entity slot) (offset o))
  simple s (StackStore x slot o) =
      raw (opcode (codes "stack_store")) s (operands.StackStore (value n x) (entity slot) (offset o))
  -- its suffix can only be `i64`, and is not kept
  simple s (FuncAddr callee) = raw (opcode (codes "func_addr")) None (operands.FuncAddr (entity callee))
  simple s (Trap code) = raw (opcode (codes "trap")) None (operands.Trap (trap_code code))
  simple s (Trapz x code) = raw (opcode (codes "trapz")) s (operands.TrapIf (value n x) (trap_code code))
  simple s (Trapnz x code) = raw (opcode (codes "trapnz")) s (operands.TrapIf (value n x) (trap_code code))

  abbrev pub branch : Option Ty → Branch → RawInst
  branch s (Jump t) = raw (opcode (codes "jump")) None (operands.Jump (target n t))
  branch s (Brif x taken other) =
      raw (opcode (codes "brif")) s (operands.Brif (value n x) (target n taken) (target n other))
  branch s (BrTable x default entries) =
      raw (opcode (codes "br_table")) None
      (operands.BrTable (value n x) (target n default) (map (target n) entries))

  -- `word` is the opcode of a direct call
  abbrev pub call : List ℕ → CallTarget → List ℕ → RawInst
  call word (Direct callee) args = raw (opcode word) None (operands.Call (entity callee) (values n args))
  call word (Indirect sig p) args =
      raw (opcode (word ++ codes "_indirect")) None
      (operands.CallIndirect (entity sig) (value n p) (values n args))

  abbrev pub try_call : TryTarget → ℕ → List ℕ → BlockCall → List (Entry BlockCall) → RawInst
  try_call (TryDirect callee) sig args normal table =
      raw (opcode (codes "try_call")) None
      (operands.TryCall (entity callee) (values n args) (entity sig) (target n normal) (map (entry n) table))
  try_call (TryIndirect p) sig args normal table =
      raw (opcode (codes "try_call_indirect")) None
      (operands.TryCallIndirect (value n p) (values n args) (entity sig) (target n normal) (map (entry n) table))

  abbrev pub instruction : Option Ty → Instruction → RawInst
  instruction s (Plain i) = simple s i
  instruction s (Branches b) = branch s b
  instruction s SequencePoint = raw (opcode (codes "sequence_point")) None operands.Nullary
  instruction s (Return vs) = raw (opcode (codes "return")) None (operands.Return (values n vs))
  instruction s (Call to args) = call (codes "call") to args
  instruction s (ReturnCall to args) = call (codes "return_call") to args
  instruction s (TryCall to sig args normal table) = try_call to sig args normal table

-- the type of a parameter; one without a type has no text
abbrev pub type_or : Option Ty → Ty
type_or None = I64
type_or (Some t) = t

-- ---- lines, blocks, functions: `next` is the number of the next value that is defined

module _ (f : Function) (n : Numbering) where
  abbrev pub line : ℕ → Line → RawLine
  line next l =
      raw_lines.Inst None (map debug_tag l.tags) (values n l.results)
      (instruction n (shown_suffix f n next l.ty (typing_operand l.inst)) l.inst)

  abbrev pub lines : ℕ → List Line → List RawLine
  lines next [] = []
  lines next (l ∷ ls) = line next l ∷ lines (next + length l.results) ls

  abbrev pub block_parameter : ℕ → RawBlockParam
  block_parameter v = record { value = value n v; ty = type_or (type_of f v) }

  abbrev pub block : ℕ → Block → RawBlock
  block next b = record {
    block = entity (number_in n.blocks b.number);
    params = map block_parameter b.params;
    cold = false;
    lines = lines (next + length b.params) b.lines;
  }

  abbrev pub blocks : ℕ → List Block → List RawBlock
  blocks next [] = []
  blocks next (b ∷ bs) = block next b ∷ blocks (next_after next b) bs

abbrev pub function : Numbering → Function → RawFunction
function n f = record {
  spot = 0;
  name = function_name f.name;
  signature = signature f.sig;
  decls = numbered slot_decl 0 f.slots ++ (numbered sig_decl 0 f.sigs ++ numbered callee_decl 0 f.callees);
  blocks = blocks f n 0 f.blocks;
  end_spot = 0;
}

abbrev pub raw_function : Function → RawFunction
raw_function f = function (numbering_of f) f

abbrev pub raw_of : Module → RawModule
raw_of m = record { headers = []; functions = map raw_function m }
