-- What a raw instruction means, where the numbers of its words and its type are given.
use Rattle.std.specs.Prelude.{ℕ, List, [], ◌∷◌, Option, None, Some, map, fold, Bool, true, false, is_some, ℤ, pos}
use Rattle.std.specs.Prelude.{negsuc}
use Rattle.exn_tables.specs.declared.table.Entry.{Entry}
use Rattle.debug_tags.specs.declared.tags.Tag.{Tag}
use Rattle.debug_tags.specs.declared.tags.Tag.TheVariants as core_tag
use Rattle.clk_num.specs.declared.op.Op.{Op}
use Rattle.clk_num.specs.declared.op.Op.TheVariants as op
use Rattle.clk_num.specs.declared.op.TrapCode.{TrapCode}
use Rattle.clk_num.specs.declared.op.TrapCode.TheVariants as code
use Rattle.clk_num.specs.Width.{bits_of}
use Rattle.clk_num.specs.Numbers.{signed, wrapped}
use Rattle.clk_num.specs.Operations.{DataValue}
use Rattle.ir_core.specs.declared.signatures.Ty.{Ty}
use Rattle.ir_core.specs.declared.signatures.Ty.TheVariants.{I8, I64}
use Rattle.ir_core.specs.declared.instructions.Arg.{Arg}
use Rattle.ir_core.specs.declared.instructions.Arg.TheVariants as core_arg
use Rattle.ir_core.specs.declared.instructions.BlockCall.{BlockCall}
use Rattle.ir_core.specs.declared.instructions.Flags.{Flags}
use Rattle.ir_core.specs.Module.{Simple, Nop, Const, Pure, PureImm, Load, Store, StackLoad, StackStore, FuncAddr, Trap}
use Rattle.ir_core.specs.Module.{Trapz, Trapnz, Jump, Brif, BrTable, CallTarget, Direct, Indirect, TryDirect}
use Rattle.ir_core.specs.Module.{TryIndirect}
use Rattle.ir_core.specs.Module.{Instruction, Plain, Branches, SequencePoint, Return, Call, ReturnCall, TryCall, Line}
use Rattle.ir_core.specs.Lookup.{width_of}
use Rattle.ir_semantics.specs.Renaming.{Renaming}
use Rattle.ir_text.specs.Writable.{by_zeros}
use Rattle.clif_words.specs.declared.opcodes.Opcode.{Opcode}
use Rattle.clif_words.specs.declared.opcodes.Opcode.TheVariants as opcode
use Rattle.token_reader.specs.declared.raw.RawName.{RawName}
use Rattle.token_reader.specs.declared.raw.RawNumber.{RawNumber}
use Rattle.clif_insts.specs.declared.raw.RawArg.{RawArg}
use Rattle.clif_insts.specs.declared.raw.RawArg.TheVariants as arg
use Rattle.clif_insts.specs.declared.raw.RawTarget.{RawTarget}
use Rattle.clif_insts.specs.declared.raw.RawEntry.{RawEntry}
use Rattle.clif_insts.specs.declared.raw.RawTrap.{RawTrap}
use Rattle.clif_insts.specs.declared.raw.RawTrap.TheVariants as trap
use Rattle.clif_insts.specs.declared.raw.RawFlag.{RawFlag}
use Rattle.clif_insts.specs.declared.raw.RawFlag.TheVariants as flag
use Rattle.clif_insts.specs.declared.raw.RawOperands.{RawOperands}
use Rattle.clif_insts.specs.declared.raw.RawOperands.TheVariants as form
use Rattle.clif_insts.specs.declared.raw.RawInst.{RawInst}
use Rattle.clif_read.specs.declared.raw.RawTag.{RawTag}
use Rattle.clif_read.specs.declared.raw.RawTag.TheVariants as tag
use Rattle.clif_meaning.specs.Operations.{operation, access_of, stored_bytes}
use Rattle.clif_names.specs.Typing.{gives_type}

-- ---- numbers

-- a number that is not negative
abbrev pub natural : ℤ → ℕ
natural (pos n) = n
natural (negsuc n) = 0

-- a constant: the number modulo 2^w, w the width of its type
abbrev pub constant : Ty → ℤ → DataValue
constant t z = record { width = width_of t; value = wrapped (bits_of (width_of t)) z }

-- The number that an immediate form keeps: the number modulo 2^64, extended by zeros where the operation is bitwise and
-- by the sign of 64 bits elsewhere, modulo 2^w.
abbrev pub extended : Bool → ℕ → ℤ
extended true n = pos n
extended false n = signed 64 n

abbrev pub immediate : Op → Ty → ℤ → DataValue
immediate o t z = constant t (extended (by_zeros o) (wrapped 64 z))

abbrev pub offset_of : Option RawNumber → ℤ
offset_of None = pos 0
offset_of (Some n) = n.value

abbrev pub code_of : RawTrap → TrapCode
code_of trap.StkOvf = code.StkOvf
code_of trap.IntOvf = code.IntOvf
code_of trap.HeapOob = code.HeapOob
code_of trap.IntDivz = code.IntDivz
code_of trap.BadToint = code.BadToint
code_of (trap.User n) = code.User n.number

-- ---- flags: any number of words, a repeated one counts once

abbrev pub no_flags : Flags
no_flags = record {
  notrap = false;
  aligned = false;
  readonly = false;
  can_move = false;
  little = false;
  big = false;
  heap = false;
  table = false;
  vmctx = false;
}

abbrev pub with_flag : Flags → RawFlag → Flags
with_flag fs flag.Notrap = record fs { notrap = true }
with_flag fs flag.Aligned = record fs { aligned = true }
with_flag fs flag.Readonly = record fs { readonly = true }
with_flag fs flag.CanMove = record fs { can_move = true }
with_flag fs flag.Heap = record fs { heap = true }
with_flag fs flag.Table = record fs { table = true }
with_flag fs flag.Vmctx = record fs { vmctx = true }
with_flag fs flag.Little = record fs { little = true }
with_flag fs flag.Big = record fs { big = true }

abbrev pub flags_of : List RawFlag → Flags
flags_of fs = fold with_flag no_flags fs

-- ---- words: `at` has the number of each word's entity

abbrev pub value_at : Renaming → RawName → ℕ
value_at at n = at.value n.number

abbrev pub values_at : Renaming → List RawName → List ℕ
values_at at ns = map (value_at at) ns

abbrev pub arg_of : Renaming → RawArg → Arg
arg_of at (arg.Value n) = core_arg.Value (at.value n.number)
arg_of at (arg.Ret n) = core_arg.Ret n.number
arg_of at (arg.Exn n) = core_arg.Exn n.number

abbrev pub target_of : Renaming → RawTarget → BlockCall
target_of at t = record { block = at.block t.block.number; args = map (arg_of at) t.args }

abbrev pub entry_tag : Option RawName → Option ℕ
entry_tag None = None
entry_tag (Some n) = Some n.number

abbrev pub entry_of : Renaming → RawEntry → Entry BlockCall
entry_of at e = record { tag = entry_tag e.tag; target = target_of at e.target }

abbrev pub tag_of : Renaming → RawTag → Tag
tag_of at (tag.User n) = core_tag.User (natural n.value)
tag_of at (tag.Slot n) = core_tag.Slot (at.slot n.number)

-- ---- forms

abbrev pub nullary : Opcode → Instruction
nullary opcode.SequencePoint = SequencePoint
nullary o = Plain Nop

abbrev pub trap_if : Opcode → ℕ → TrapCode → Simple
trap_if opcode.Trapnz v c = Trapnz v c
trap_if o v c = Trapz v c

abbrev pub call : Opcode → CallTarget → List ℕ → Instruction
call opcode.ReturnCall t args = ReturnCall t args
call opcode.ReturnCallIndirect t args = ReturnCall t args
call o t args = Call t args

-- t is the type of the instruction
abbrev pub instruction_of : Renaming → Opcode → Ty → RawOperands → Instruction
instruction_of at o t form.Nullary = nullary o
instruction_of at o t (form.Number n) = Plain (Const (constant t n.value))
instruction_of at o t (form.Unary x) = Plain (Pure (operation o t) (value_at at x ∷ []))
instruction_of at o t (form.Binary x y) = Plain (Pure (operation o t) (value_at at x ∷ value_at at y ∷ []))
instruction_of at o t (form.Ternary c x y) =
    Plain (Pure (operation o t) (value_at at c ∷ value_at at x ∷ value_at at y ∷ []))
instruction_of at o t (form.Compare c x y) = Plain (Pure (op.Icmp c) (value_at at x ∷ value_at at y ∷ []))
instruction_of at o t (form.BinaryImm x n) =
    Plain (PureImm (operation o t) (value_at at x) (immediate (operation o t) t n.value))
instruction_of at o t (form.CompareImm c x n) =
    Plain (PureImm (op.Icmp c) (value_at at x) (immediate (op.Icmp c) t n.value))
instruction_of at o t (form.Load flags p offset) =
    Plain (Load (access_of o t) (flags_of flags) (value_at at p) (offset_of offset))
instruction_of at o t (form.Store flags x p offset) =
    Plain (Store (stored_bytes o) (flags_of flags) (value_at at x) (value_at at p) (offset_of offset))
instruction_of at o t (form.StackLoad slot offset) = Plain (StackLoad t (at.slot slot.number) (offset_of offset))
instruction_of at o t (form.StackStore x slot offset) =
    Plain (StackStore (value_at at x) (at.slot slot.number) (offset_of offset))
instruction_of at o t (form.FuncAddr callee) = Plain (FuncAddr (at.callee callee.number))
instruction_of at o t (form.Jump target) = Branches (Jump (target_of at target))
instruction_of at o t (form.Brif x taken other) =
    Branches (Brif (value_at at x) (target_of at taken) (target_of at other))
instruction_of at o t (form.BrTable x default entries) =
    Branches (BrTable (value_at at x) (target_of at default) (map (target_of at) entries))
instruction_of at o t (form.Return xs) = Return (values_at at xs)
instruction_of at o t (form.Trap c) = Plain (Trap (code_of c))
instruction_of at o t (form.TrapIf x c) = Plain (trap_if o (value_at at x) (code_of c))
instruction_of at o t (form.Call callee args) = call o (Direct (at.callee callee.number)) (values_at at args)
instruction_of at o t (form.TryCall callee args sig normal table) =
    TryCall (TryDirect (at.callee callee.number)) (at.sig sig.number) (values_at at args)
    (target_of at normal) (map (entry_of at) table)
instruction_of at o t (form.CallIndirect sig x args) =
    call o (Indirect (at.sig sig.number) (value_at at x)) (values_at at args)
instruction_of at o t (form.TryCallIndirect x args sig normal table) =
    TryCall (TryIndirect (value_at at x)) (at.sig sig.number) (values_at at args)
    (target_of at normal) (map (entry_of at) table)

-- ---- the type of an instruction

-- whether the form's suffix may be left out
abbrev pub may_leave_out : Opcode → RawOperands → Bool
may_leave_out opcode.Uextend o = false
may_leave_out opcode.Sextend o = false
may_leave_out opcode.Ireduce o = false
may_leave_out opcode.Uload32 o = true
may_leave_out opcode.Sload32 o = true
may_leave_out _ o = is_some (gives_type o)

-- where there is no suffix: the type of the operand that gives it, by the types of values; for `uload32` and `sload32`
-- i64
abbrev pub operand_type : (ℕ → Option Ty) → Renaming → Option RawName → Option Ty
operand_type type at None = Some I64
operand_type type at (Some x) = type (value_at at x)

abbrev pub type_for : (ℕ → Option Ty) → Renaming → RawInst → Option Ty
type_for type at inst = elim inst.suffix [ None ↦ operand_type type at (gives_type inst.operands) | Some t ↦ Some t ]

abbrev pub known : Option Ty → Ty
known None = I8
known (Some t) = t

abbrev pub kept_type : Bool → Ty → Option Ty
kept_type true t = Some t
kept_type false t = None

-- an instruction with its results and tags; t is its type
abbrev pub line_of : Renaming → Ty → List RawTag → List RawName → RawInst → Line
line_of at t tags results inst = record {
  inst = instruction_of at inst.opcode.kind t inst.operands;
  ty = kept_type (may_leave_out inst.opcode.kind inst.operands) t;
  results = values_at at results;
  tags = map (tag_of at) tags;
}
