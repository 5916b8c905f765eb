-- A function under other numbers: of its values, blocks, slots, signatures and callees.
use Rattle.std.specs.Prelude.{ℕ, map}
use Rattle.exn_tables.specs.declared.table.Entry.{Entry}
use Rattle.debug_tags.specs.declared.tags.Tag.{Tag}
use Rattle.debug_tags.specs.declared.tags.Tag.TheVariants as tag
use Rattle.ir_core.specs.declared.signatures.Ty.{Ty}
use Rattle.ir_core.specs.declared.instructions.Arg.{Arg}
use Rattle.ir_core.specs.declared.instructions.Arg.TheVariants as arg
use Rattle.ir_core.specs.declared.instructions.BlockCall.{BlockCall}
use Rattle.ir_core.specs.Module.{Simple, Nop, Const, Pure, PureImm, Load, Store, StackLoad, StackStore, FuncAddr, Trap}
use Rattle.ir_core.specs.Module.{Trapz, Trapnz, Branch, Jump, Brif, BrTable, CallTarget, Direct, Indirect, TryTarget}
use Rattle.ir_core.specs.Module.{TryDirect, TryIndirect, Instruction, Plain, Branches, SequencePoint, Return, Call}
use Rattle.ir_core.specs.Module.{ReturnCall, TryCall, Line, Block}

-- new numbers for old ones
pub record Renaming : Type 0 where
  pub value : ℕ → ℕ
  pub block : ℕ → ℕ
  pub slot : ℕ → ℕ
  pub sig : ℕ → ℕ
  pub callee : ℕ → ℕ

abbrev pub arg_under : Renaming → Arg → Arg
arg_under r (arg.Value v) = arg.Value (r.value v)
arg_under r (arg.Ret i) = arg.Ret i
arg_under r (arg.Exn i) = arg.Exn i

abbrev pub target_under : Renaming → BlockCall → BlockCall
target_under r t = record { block = r.block t.block; args = map (arg_under r) t.args }

abbrev pub tag_under : Renaming → Tag → Tag
tag_under r (tag.User n) = tag.User n
tag_under r (tag.Slot k) = tag.Slot (r.slot k)

abbrev pub entry_under : Renaming → Entry BlockCall → Entry BlockCall
entry_under r e = record { tag = e.tag; target = target_under r e.target }

abbrev pub simple_under : Renaming → Simple → Simple
simple_under r Nop = Nop
simple_under r (Const x) = Const x
simple_under r (Pure op args) = Pure op (map r.value args)
simple_under r (PureImm op a imm) = PureImm op (r.value a) imm
simple_under r (Load access flags a offset) = Load access flags (r.value a) offset
simple_under r (Store narrow flags v a offset) = Store narrow flags (r.value v) (r.value a) offset
simple_under r (StackLoad t k offset) = StackLoad t (r.slot k) offset
simple_under r (StackStore v k offset) = StackStore (r.value v) (r.slot k) offset
simple_under r (FuncAddr k) = FuncAddr (r.callee k)
simple_under r (Trap code) = Trap code
simple_under r (Trapz v code) = Trapz (r.value v) code
simple_under r (Trapnz v code) = Trapnz (r.value v) code

abbrev pub branch_under : Renaming → Branch → Branch
branch_under r (Jump t) = Jump (target_under r t)
branch_under r (Brif v t u) = Brif (r.value v) (target_under r t) (target_under r u)
branch_under r (BrTable v default ts) = BrTable (r.value v) (target_under r default) (map (target_under r) ts)

abbrev pub called_under : Renaming → CallTarget → CallTarget
called_under r (Direct k) = Direct (r.callee k)
called_under r (Indirect s a) = Indirect (r.sig s) (r.value a)

abbrev pub try_target_under : Renaming → TryTarget → TryTarget
try_target_under r (TryDirect k) = TryDirect (r.callee k)
try_target_under r (TryIndirect a) = TryIndirect (r.value a)

abbrev pub instruction_under : Renaming → Instruction → Instruction
instruction_under r (Plain p) = Plain (simple_under r p)
instruction_under r (Branches b) = Branches (branch_under r b)
instruction_under r SequencePoint = SequencePoint
instruction_under r (Return vs) = Return (map r.value vs)
instruction_under r (Call t args) = Call (called_under r t) (map r.value args)
instruction_under r (ReturnCall t args) = ReturnCall (called_under r t) (map r.value args)
instruction_under r (TryCall t sig args normal table) =
    TryCall (try_target_under r t) (r.sig sig) (map r.value args) (target_under r normal) (map (entry_under r) table)

abbrev pub line_under : Renaming → Line → Line
line_under r l =
    record {
      inst = instruction_under r l.inst;
      ty = l.ty;
      results = map r.value l.results;
      tags = map (tag_under r) l.tags;
    }

abbrev pub block_under : Renaming → Block → Block
block_under r b =
    record { number = r.block b.number; params = map r.value b.params; lines = map (line_under r) b.lines }

abbrev pub typed_under : Renaming → ℕ × Ty → ℕ × Ty
typed_under r x = (r.value x.0, x.1)
