-- The canonical text of instructions, by their forms: operands, opcodes with their suffixes, and flags.
use Rattle.std.specs.Prelude.{ℕ, zero, suc, ◌+◌, ◌*◌, ℤ, pos, negsuc, Bool, false, ◌&&◌, ◌==◌, nat_lt, if◌then◌else◌}
use Rattle.std.specs.Prelude.{List, [], ◌∷◌, ◌++◌, length, Option, Some, None, codes}
use Rattle.std.specs.Option.{option_map_or}
use Rattle.clk_num.specs.Numbers.{signed}
use Rattle.clk_num.specs.Operations.{DataValue}
use Rattle.clk_num.specs.Width.{bits_of}
use Rattle.clk_num.specs.declared.op.Op.{Op}
use Rattle.clk_num.specs.declared.op.Op.TheVariants.{Icmp, Uextend, Sextend, Ireduce}
use Rattle.clk_num.specs.declared.op.TrapCode.{TrapCode}
use Rattle.clk_num.specs.declared.op.TrapCode.TheVariants as trap
use Rattle.exn_tables.specs.declared.table.Entry.{Entry}
use Rattle.debug_tags.specs.declared.tags.Tag.{Tag}
use Rattle.debug_tags.specs.declared.tags.Tag.TheVariants as tag
use Rattle.ir_core.specs.declared.instructions.Access.{Access}
use Rattle.ir_core.specs.declared.instructions.Access.TheVariants as access
use Rattle.ir_core.specs.declared.instructions.Arg.{Arg}
use Rattle.ir_core.specs.declared.instructions.Arg.TheVariants as arg
use Rattle.ir_core.specs.declared.instructions.BlockCall.{BlockCall}
use Rattle.ir_core.specs.declared.instructions.Flags.{Flags}
use Rattle.ir_core.specs.declared.signatures.Ty.{Ty}
use Rattle.ir_core.specs.declared.signatures.Ty.TheVariants.{I64}
use Rattle.ir_core.specs.Lookup.{type_of, line_definitions, number_in, ty_of}
use Rattle.ir_core.specs.Module.{Simple, Branch, CallTarget, TryTarget, Instruction, Block, Function}
use Rattle.ir_core.specs.Module.{Nop, Const, Pure, PureImm, Load, Store, StackLoad, StackStore, FuncAddr, Trap, Trapz}
use Rattle.ir_core.specs.Module.{Trapnz, Jump, Brif, BrTable, Direct, Indirect, TryDirect, TryIndirect, Plain, Branches}
use Rattle.ir_core.specs.Module.{SequencePoint, Return, Call, ReturnCall, TryCall}
use Rattle.ir_core.specs.Forms.{controlling}
use Rattle.ir_core.specs.Signatures.{same_type}
use Rattle.ir_text.specs.Numbering.{Numbering}
use Rattle.ir_text.specs.TextTree.{Text, Nothing, Word, Numbered, Number, Signed, Offset, Mark, ◌▹◌, space, comma}
use Rattle.ir_text.specs.TextTree.{colon}
use Rattle.ir_text.specs.TextTree.{separated, in_parentheses, in_brackets}
use Rattle.ir_text.specs.Words.{op_word, condition_word, type_word}

-- ---- operands

-- `.i64`
abbrev pub suffix : Ty → Text
suffix t = Mark 46 ▹ Word (type_word t)

abbrev pub suffix_if : Option Ty → Text
suffix_if None = Nothing
suffix_if (Some t) = suffix t

-- a constant or an immediate number
abbrev pub constant : DataValue → Text
constant d = Signed (signed (bits_of d.width) d.value)

abbrev pub signature_reference : ℕ → Text
signature_reference k = Numbered (codes "sig") k

abbrev pub callee_reference : ℕ → Text
callee_reference k = Numbered (codes "fn") k

abbrev pub trap_code : TrapCode → Text
trap_code trap.StkOvf = Word (codes "stk_ovf")
trap_code trap.IntOvf = Word (codes "int_ovf")
trap_code trap.HeapOob = Word (codes "heap_oob")
trap_code trap.IntDivz = Word (codes "int_divz")
trap_code trap.BadToint = Word (codes "bad_toint")
trap_code (trap.User number) = Numbered (codes "user") number

-- a memory flag, with the space behind it
abbrev pub flag : Bool → List ℕ → Text
flag set word = if set then Word word ▹ space else Nothing

abbrev pub flags : Flags → Text
flags f =
    flag f.notrap (codes "notrap") ▹ flag f.aligned (codes "aligned") ▹ flag f.readonly (codes "readonly")
    ▹ flag f.can_move (codes "can_move")
    ▹ flag f.little (codes "little") ▹ flag f.big (codes "big") ▹ flag f.heap (codes "heap")
    ▹ flag f.table (codes "table") ▹ flag f.vmctx (codes "vmctx")

-- nothing for 0
abbrev pub offset_text : ℤ → Text
offset_text (pos zero) = Nothing
offset_text (pos (suc k)) = Offset (pos (suc k))
offset_text (negsuc k) = Offset (negsuc k)

abbrev pub slot_address : ℕ → ℤ → Text
slot_address slot offset = Numbered (codes "ss") slot ▹ offset_text offset

abbrev pub debug_tag : Tag → Text
debug_tag (tag.User number) = Number number
debug_tag (tag.Slot slot) = Numbered (codes "ss") slot

-- `<7, ss0> `
abbrev pub debug_tags : List Tag → Text
debug_tags [] = Nothing
debug_tags (t ∷ ts) = Mark 60 ▹ separated debug_tag (t ∷ ts) ▹ Mark 62 ▹ space

abbrev pub entry_tag : Option ℕ → Text
entry_tag None = Word (codes "default")
entry_tag (Some k) = Numbered (codes "tag") k

-- n has the numbers of values and blocks
module _ (n : Numbering) where
  abbrev pub value : ℕ → Text
  value v = Numbered (codes "v") (number_in n.values v)

  abbrev pub values : List ℕ → Text
  values vs = separated value vs

  abbrev pub block_reference : ℕ → Text
  block_reference b = Numbered (codes "block") (number_in n.blocks b)

  abbrev pub address : ℕ → ℤ → Text
  address p offset = value p ▹ offset_text offset

  abbrev pub argument : Arg → Text
  argument (arg.Value v) = value v
  argument (arg.Ret k) = Numbered (codes "ret") k
  argument (arg.Exn k) = Numbered (codes "exn") k

  -- none: no parentheses
  abbrev pub target_arguments : List Arg → Text
  target_arguments [] = Nothing
  target_arguments (a ∷ as') = in_parentheses (separated argument (a ∷ as'))

  abbrev pub target : BlockCall → Text
  target t = block_reference t.block ▹ target_arguments t.args

  abbrev pub entry : Entry BlockCall → Text
  entry e = entry_tag e.tag ▹ colon ▹ space ▹ target e.target

  abbrev pub exception_table : List (Entry BlockCall) → Text
  exception_table [] = in_brackets Nothing
  exception_table (e ∷ es) = in_brackets (space ▹ separated entry (e ∷ es) ▹ space)

  -- the space, and operands behind the opcode and its suffix; without operands nothing
  abbrev pub operands : List ℕ → Text
  operands [] = Nothing
  operands (v ∷ vs) = space ▹ values (v ∷ vs)

  abbrev pub call_arguments : List ℕ → Text
  call_arguments vs = in_parentheses (values vs)

-- ---- opcodes

-- the suffix of an opcode that says its result's type always has it
abbrev pub op_suffix : Op → Option Ty → Text
op_suffix (Uextend width) s = suffix (ty_of width)
op_suffix (Sextend width) s = suffix (ty_of width)
op_suffix (Ireduce width) s = suffix (ty_of width)
op_suffix op s = suffix_if s

abbrev pub condition : Op → Text
condition (Icmp cc) = space ▹ Word (condition_word cc)
condition op = Nothing

abbrev pub suffix_but_i64 : Option Ty → Text
suffix_but_i64 None = Nothing
suffix_but_i64 (Some I64) = Nothing
suffix_but_i64 (Some t) = suffix t

-- A load that extends says the type of its result. That of 4 bytes says its suffix instead, exactly where this is not
-- i64.
abbrev pub extending_suffix : Option Ty → Ty → ℕ → Text
extending_suffix s t bytes = if bytes == 4 then suffix_but_i64 s else suffix t

abbrev pub load_opcode : Option Ty → Access → Text
load_opcode s (access.Full t) = Word (codes "load") ▹ suffix t
load_opcode s (access.Uload t bytes) = Numbered (codes "uload") (8 * bytes) ▹ extending_suffix s t bytes
load_opcode s (access.Sload t bytes) = Numbered (codes "sload") (8 * bytes) ▹ extending_suffix s t bytes

abbrev pub store_opcode : Option ℕ → Text
store_opcode None = Word (codes "store")
store_opcode (Some bytes) = Numbered (codes "istore") (8 * bytes)

-- the opcode of an indirect call
abbrev pub call_opcode : CallTarget → List ℕ → Text
call_opcode (Direct callee) word = Word word
call_opcode (Indirect sig p) word = Word (word ++ codes "_indirect")

abbrev pub try_opcode : TryTarget → Text
try_opcode (TryDirect callee) = Word (codes "try_call")
try_opcode (TryIndirect p) = Word (codes "try_call_indirect")

-- ---- instructions, each by its form; s is the suffix that is printed where a form may leave it out

module _ (n : Numbering) where
  abbrev pub simple : Option Ty → Simple → Text
  simple s Nop = Word (codes "nop")
  simple s (Const d) = Word (codes "iconst") ▹ suffix (ty_of d.width) ▹ space ▹ constant d
  simple s (Pure op args) = Word (op_word op) ▹ op_suffix op s ▹ condition op ▹ operands n args
  simple s (PureImm op x d) =
      Word (op_word op ++ codes "_imm") ▹ suffix_if s ▹ condition op ▹ space ▹ value n x ▹ comma ▹ constant d
  simple s (Load from f p offset) = load_opcode s from ▹ space ▹ flags f ▹ address n p offset
  simple s (Store narrow f x p offset) =
      store_opcode narrow ▹ suffix_if s ▹ space ▹ flags f ▹ value n x ▹ comma ▹ address n p offset
  simple s (StackLoad t slot offset) = Word (codes "stack_load") ▹ suffix t ▹ space ▹ slot_address slot offset
  simple s (StackStore x slot offset) =
      Word (codes "stack_store") ▹ suffix_if s ▹ space ▹ value n x ▹ comma ▹ slot_address slot offset
  simple s (FuncAddr callee) = Word (codes "func_addr") ▹ suffix I64 ▹ space ▹ callee_reference callee
  simple s (Trap code) = Word (codes "trap") ▹ space ▹ trap_code code
  simple s (Trapz x code) = Word (codes "trapz") ▹ suffix_if s ▹ space ▹ value n x ▹ comma ▹ trap_code code
  simple s (Trapnz x code) = Word (codes "trapnz") ▹ suffix_if s ▹ space ▹ value n x ▹ comma ▹ trap_code code

  abbrev pub branch : Option Ty → Branch → Text
  branch s (Jump t) = Word (codes "jump") ▹ space ▹ target n t
  branch s (Brif x taken other) =
      Word (codes "brif") ▹ suffix_if s ▹ space ▹ value n x ▹ comma ▹ target n taken ▹ comma ▹ target n other
  branch s (BrTable x default entries) =
      Word (codes "br_table") ▹ space ▹ value n x ▹ comma ▹ target n default ▹ comma
      ▹ in_brackets (separated (target n) entries)

  -- `fn0(v0, v1)`, or `sig0, v0(v1)`
  abbrev pub called : CallTarget → List ℕ → Text
  called (Direct callee) args = callee_reference callee ▹ call_arguments n args
  called (Indirect sig p) args = signature_reference sig ▹ comma ▹ value n p ▹ call_arguments n args

  -- `fn0(v0, v1)`, or `v0(v1)`, whose signature stands behind it
  abbrev pub tried : TryTarget → List ℕ → Text
  tried (TryDirect callee) args = callee_reference callee ▹ call_arguments n args
  tried (TryIndirect p) args = value n p ▹ call_arguments n args

  abbrev pub instruction : Option Ty → Instruction → Text
  instruction s (Plain i) = simple s i
  instruction s (Branches b) = branch s b
  instruction s SequencePoint = Word (codes "sequence_point")
  instruction s (Return vs) = Word (codes "return") ▹ operands n vs
  instruction s (Call to args) = call_opcode to (codes "call") ▹ space ▹ called to args
  instruction s (ReturnCall to args) = call_opcode to (codes "return_call") ▹ space ▹ called to args
  instruction s (TryCall to sig args normal table) =
      try_opcode to ▹ space ▹ tried to args ▹ comma ▹ signature_reference sig ▹ comma ▹ target n normal ▹ comma
      ▹ exception_table n table

-- the operand that gives the type of an instruction whose form may leave the suffix out
abbrev pub simple_operand : Simple → Option ℕ
simple_operand (Pure op args) = controlling op args
simple_operand (PureImm op x d) = Some x
simple_operand (Store narrow f x p offset) = Some x
simple_operand (StackStore x slot offset) = Some x
simple_operand (Trapz x code) = Some x
simple_operand (Trapnz x code) = Some x
simple_operand i = None

abbrev pub typing_operand : Instruction → Option ℕ
typing_operand (Plain i) = simple_operand i
typing_operand (Branches (Brif x taken other)) = Some x
typing_operand i = None

abbrev pub has_type : Function → ℕ → Ty → Bool
has_type f v t = option_map_or (λ own. same_type own t) (type_of f v) false

-- A reader knows the type from the operand where this is defined before: its number is below the next value's.
abbrev pub is_known : Function → Numbering → ℕ → Ty → Option ℕ → Bool
is_known f n next t None = false
is_known f n next t (Some v) = nat_lt (number_in n.values v) next && has_type f v t

-- the suffix that is printed where a form may leave it out
abbrev pub shown_suffix : Function → Numbering → ℕ → Option Ty → Option ℕ → Option Ty
shown_suffix f n next None operand = None
shown_suffix f n next (Some t) operand = if is_known f n next t operand then None else Some t

abbrev pub type_text : Option Ty → Text
type_text None = Nothing
type_text (Some t) = Word (type_word t)

-- the number of the next value behind a block
abbrev pub next_after : ℕ → Block → ℕ
next_after next b = next + length b.params + length (line_definitions b.lines)
