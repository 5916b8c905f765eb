-- Which modules have a text that reads as the module again: names spelled by the rules of tokens, numbers and sizes
-- within the limits, each instruction of a form of the CLIF reference with results of the types that the form gives,
-- and numbers of constants and immediates that are of their types and that a literal can give.
use Rattle.std.specs.Prelude.{◌≡◌, ◌≢◌, ◌<◌, ◌≤◌, ◌^◌, ⊤, ℕ, List, [], ◌∷◌, length, Option, Some, None, Bool, true}
use Rattle.std.specs.Prelude.{false, ◌&&◌, ◌||◌, nat_le, ◌==◌, IsTrue, IsSome, IsSomeAnd, ℤ, pos, neg_ℤ, ◌≤ℤ◌, ◌<ℤ◌}
use Rattle.exn_tables.specs.declared.table.Entry.{Entry}
use Rattle.debug_tags.specs.declared.tags.Tag.{Tag}
use Rattle.debug_tags.specs.declared.tags.Tag.TheVariants as tag
use Rattle.clk_num.specs.declared.width.Width.{Width}
use Rattle.clk_num.specs.declared.width.Width.TheVariants.{W128}
use Rattle.clk_num.specs.Width.{double, half}
use Rattle.clk_num.specs.Numbers.{signed}
use Rattle.clk_num.specs.Operations.{DataValue}
use Rattle.clk_num.specs.declared.op.Op.{Op}
use Rattle.clk_num.specs.declared.op.Op.TheVariants as op
use Rattle.clk_num.specs.declared.op.TrapCode.{TrapCode}
use Rattle.clk_num.specs.declared.op.TrapCode.TheVariants as code
use Rattle.ir_core.specs.declared.names.FuncName.{FuncName}
use Rattle.ir_core.specs.declared.names.FuncName.TheVariants as name
use Rattle.ir_core.specs.declared.signatures.Ty.{Ty}
use Rattle.ir_core.specs.declared.signatures.Ty.TheVariants.{I8, I64}
use Rattle.ir_core.specs.declared.declarations.SlotDecl.{SlotDecl}
use Rattle.ir_core.specs.declared.declarations.Callee.{Callee}
use Rattle.ir_core.specs.declared.instructions.Arg.{Arg}
use Rattle.ir_core.specs.declared.instructions.Arg.TheVariants as arg
use Rattle.ir_core.specs.declared.instructions.BlockCall.{BlockCall}
use Rattle.ir_core.specs.declared.instructions.Access.{Access}
use Rattle.ir_core.specs.declared.instructions.Access.TheVariants.{Full, Uload, Sload}
use Rattle.ir_core.specs.Module.{Simple, Nop, Const, Pure, PureImm, Load, Store, StackLoad, StackStore, FuncAddr, Trap}
use Rattle.ir_core.specs.Module.{Trapz, Trapnz, Branch, Jump, Brif, BrTable, Instruction, Plain, Branches}
use Rattle.ir_core.specs.Module.{SequencePoint, Return, Call, ReturnCall, TryCall, Line, Block, Function, Module}
use Rattle.ir_core.specs.Lookup.{type_of, signature_of, param_types, width_of, ty_of}
use Rattle.ir_core.specs.Lists.{Each}
use Rattle.ir_core.specs.Uses.{branch_targets}
use Rattle.ir_core.specs.Forms.{has_immediate, ValueInRange, access_type, flags_form}
use Rattle.ir_core.specs.Size.{size_of}

-- ---- names: `%` and one or more letters, digits and `_`, or `u` and two numbers

-- the greatest number of an entity, a tag or a name
abbrev pub greatest_number : ℕ
greatest_number = 4294967294

abbrev pub in_range : ℕ → ℕ → ℕ → Bool
in_range low high b = nat_le low b && nat_le b high

abbrev pub is_name_byte : ℕ → Bool
is_name_byte b = in_range 48 57 b || in_range 65 90 b || in_range 97 122 b || b == 95

abbrev pub NameWritable : FuncName → Type 0
NameWritable (name.Text bytes) = (bytes ≢ []) × Each (λ b. IsTrue (is_name_byte b)) bytes
NameWritable (name.User a i) = (a ≤ greatest_number) × (i ≤ greatest_number)

-- ---- limits of declarations and of numbers in instructions

abbrev pub is_alignment : ℕ → Bool
is_alignment n = n == 1 || n == 2 || n == 4 || n == 8 || n == 16 || n == 32 || n == 64 || n == 128 || n == 256

abbrev pub SlotWritable : SlotDecl → Type 0
SlotWritable d = (d.size ≤ 65536) × IsTrue (is_alignment d.align)

abbrev pub OffsetWritable : ℤ → Type 0
OffsetWritable z = (neg_ℤ (pos (2 ^ 31)) ≤ℤ z) × (z <ℤ pos (2 ^ 31))

abbrev pub CodeWritable : TrapCode → Type 0
CodeWritable (code.User n) = n ≤ 65535
CodeWritable _ = ⊤

abbrev pub TagWritable : Tag → Type 0
TagWritable (tag.User n) = n ≤ greatest_number
TagWritable (tag.Slot k) = ⊤

abbrev pub EntryTagWritable : Option ℕ → Type 0
EntryTagWritable None = ⊤
EntryTagWritable (Some n) = n ≤ greatest_number

-- ---- arguments: `ret` stands in the normal target of a call that has one, `exn` in its table

abbrev pub ValueArg : Arg → Type 0
ValueArg (arg.Value v) = ⊤
ValueArg (arg.Ret i) = ⊥
ValueArg (arg.Exn i) = ⊥

abbrev pub NormalArg : Arg → Type 0
NormalArg (arg.Value v) = ⊤
NormalArg (arg.Ret i) = i ≤ greatest_number
NormalArg (arg.Exn i) = ⊥

abbrev pub TableArg : Arg → Type 0
TableArg (arg.Value v) = ⊤
TableArg (arg.Ret i) = ⊥
TableArg (arg.Exn i) = i ≤ greatest_number

abbrev pub TargetWritable : (Arg → Type 0) → BlockCall → Type 0
TargetWritable P t = Each P t.args

abbrev pub TableWritable : Entry BlockCall → Type 0
TableWritable e = EntryTagWritable e.tag × TargetWritable TableArg e.target

-- ---- immediates: literals have 64 bits, and the bitwise forms extend theirs by zeros, the others by the sign

abbrev pub by_zeros : Op → Bool
by_zeros op.Band = true
by_zeros op.Bor = true
by_zeros op.Bxor = true
by_zeros _ = false

abbrev pub SignedWithin : ℕ → ℕ → Type 0
SignedWithin bits x = (neg_ℤ (pos (2 ^ 63)) ≤ℤ signed 128 x) × (signed 128 x <ℤ pos (2 ^ bits))

abbrev pub ImmediateWithin : Bool → ℕ → Type 0
ImmediateWithin true x = x < 2 ^ 64
ImmediateWithin false x = SignedWithin 63 x

-- P, where the type is i128
abbrev pub WhereWidest : Width → Type 0 → Type 0
WhereWidest W128 P = P
WhereWidest _ P = ⊤

abbrev pub ImmediateWritable : Op → DataValue → Type 0
ImmediateWritable o x = ValueInRange x × WhereWidest x.width (ImmediateWithin (by_zeros o) x.value)

abbrev pub ConstantWritable : DataValue → Type 0
ConstantWritable x = ValueInRange x × WhereWidest x.width (SignedWithin 64 x.value)

-- ---- forms: `ty` is the type of a suffix that may be left out, and none where the form has no such suffix

-- the values have these types in order, and i8 past them
abbrev pub ResultTypes : Function → List ℕ → List Ty → Type 0
ResultTypes f [] ts = ⊤
ResultTypes f (v ∷ vs) [] = (type_of f v ≡ Some I8) × ResultTypes f vs []
ResultTypes f (v ∷ vs) (t ∷ ts) = (type_of f v ≡ Some t) × ResultTypes f vs ts

abbrev pub op_operands : Op → ℕ
op_operands op.Ineg = 1
op_operands op.Bnot = 1
op_operands op.Iabs = 1
op_operands op.Clz = 1
op_operands op.Ctz = 1
op_operands op.Popcnt = 1
op_operands op.Bitrev = 1
op_operands op.Bswap = 1
op_operands (op.Uextend w) = 1
op_operands (op.Sextend w) = 1
op_operands (op.Ireduce w) = 1
op_operands op.Isplit = 1
op_operands op.Select = 3
op_operands _ = 2

-- the types of the results where the form's type is t
abbrev pub result_types : Op → Ty → List Ty
result_types op.UaddOverflow t = t ∷ I8 ∷ []
result_types op.SaddOverflow t = t ∷ I8 ∷ []
result_types op.UsubOverflow t = t ∷ I8 ∷ []
result_types op.SsubOverflow t = t ∷ I8 ∷ []
result_types (op.Icmp cc) t = I8 ∷ []
result_types op.Iconcat t = ty_of (double (width_of t)) ∷ []
result_types op.Isplit t = ty_of (half (width_of t)) ∷ ty_of (half (width_of t)) ∷ []
result_types _ t = t ∷ []

-- the type that the required suffix of a conversion names
abbrev pub conversion : Op → Option Width
conversion (op.Uextend w) = Some w
conversion (op.Sextend w) = Some w
conversion (op.Ireduce w) = Some w
conversion _ = None

abbrev pub OpForm : Function → Line → Op → Option Width → Type 0
OpForm f l o (Some w) = (l.ty ≡ None) × ResultTypes f l.results (ty_of w ∷ [])
OpForm f l o None = IsSomeAnd l.ty (λ t. ResultTypes f l.results (result_types o t))

abbrev pub is_bytes : ℕ → Bool
is_bytes n = n == 1 || n == 2 || n == 4

-- a narrow read names its type by a suffix, which only that of 32 bits may leave out; its result is then i64
abbrev pub NarrowSuffix : Bool → Line → Ty → Type 0
NarrowSuffix true l t = IsSome l.ty × (t ≡ I64)
NarrowSuffix false l t = l.ty ≡ None

abbrev pub NarrowForm : Line → Ty → ℕ → Type 0
NarrowForm l t n = IsTrue (is_bytes n) × NarrowSuffix (n == 4) l t

abbrev pub AccessForm : Line → Access → Type 0
AccessForm l (Full t) = l.ty ≡ None
AccessForm l (Uload t n) = NarrowForm l t n
AccessForm l (Sload t n) = NarrowForm l t n

abbrev pub StoreForm : Option ℕ → Type 0
StoreForm None = ⊤
StoreForm (Some n) = IsTrue (is_bytes n)

abbrev pub SimpleForm : Function → Line → Simple → Type 0
SimpleForm f l Nop = (l.ty ≡ None) × ResultTypes f l.results []
SimpleForm f l (Const x) = (l.ty ≡ None) × ConstantWritable x × ResultTypes f l.results (ty_of x.width ∷ [])
SimpleForm f l (Pure o args) = (length args ≡ op_operands o) × OpForm f l o (conversion o)
SimpleForm f l (PureImm o a imm) =
    IsTrue (has_immediate o) × ImmediateWritable o imm × (l.ty ≡ Some (ty_of imm.width)) × OpForm f l o None
SimpleForm f l (Load access flags a offset) =
    IsTrue (flags_form flags) × OffsetWritable offset × AccessForm l access
    × ResultTypes f l.results (access_type access ∷ [])
SimpleForm f l (Store narrow flags v a offset) =
    IsTrue (flags_form flags) × OffsetWritable offset × StoreForm narrow × IsSome l.ty × ResultTypes f l.results []
SimpleForm f l (StackLoad t k offset) = OffsetWritable offset × (l.ty ≡ None) × ResultTypes f l.results (t ∷ [])
SimpleForm f l (StackStore v k offset) = OffsetWritable offset × IsSome l.ty × ResultTypes f l.results []
SimpleForm f l (FuncAddr k) = (l.ty ≡ None) × ResultTypes f l.results (I64 ∷ [])
SimpleForm f l (Trap code) = CodeWritable code × (l.ty ≡ None) × ResultTypes f l.results []
SimpleForm f l (Trapz v code) = CodeWritable code × IsSome l.ty × ResultTypes f l.results []
SimpleForm f l (Trapnz v code) = CodeWritable code × IsSome l.ty × ResultTypes f l.results []

abbrev pub BranchForm : Line → Branch → Type 0
BranchForm l (Jump t) = l.ty ≡ None
BranchForm l (Brif v t u) = IsSome l.ty
BranchForm l (BrTable v default ts) = l.ty ≡ None

abbrev pub InstructionForm : Function → Line → Instruction → Type 0
InstructionForm f l (Plain p) = SimpleForm f l p
InstructionForm f l (Branches b) =
    BranchForm l b × Each (TargetWritable ValueArg) (branch_targets b) × ResultTypes f l.results []
InstructionForm f l SequencePoint = (l.ty ≡ None) × ResultTypes f l.results []
InstructionForm f l (Return vs) = (l.ty ≡ None) × ResultTypes f l.results []
InstructionForm f l (Call t args) =
    (l.ty ≡ None) × IsSomeAnd (signature_of f t) (λ s. ResultTypes f l.results (param_types s.results))
InstructionForm f l (ReturnCall t args) = (l.ty ≡ None) × ResultTypes f l.results []
InstructionForm f l (TryCall t sig args normal table) =
    (l.ty ≡ None) × TargetWritable NormalArg normal × Each TableWritable table × ResultTypes f l.results []

abbrev pub LineWritable : Function → Line → Type 0
LineWritable f l = InstructionForm f l l.inst × Each TagWritable l.tags

-- ---- functions and modules

pub record FunctionWritable (f : Function) : Type 0 where
  pub name : NameWritable f.name
  pub slots : Each SlotWritable f.slots
  pub callees : Each (λ (c : Callee). NameWritable c.name) f.callees
  pub lines : Each (λ (b : Block). Each (LineWritable f) b.lines) f.blocks
  pub size : size_of f ≤ 262144

pub record Writable (m : Module) : Type 0 where
  pub functions : Each FunctionWritable m
  pub count : length m ≤ 65536
