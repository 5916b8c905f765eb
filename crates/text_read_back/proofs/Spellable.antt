-- What a module needs beside the rules of writable ones so that its text says it: words have numbers that they can have,
-- each parameter of a block has a type, and each function has a block.
use Rattle.std.specs.Prelude.{◌≢◌, ◌<◌, ◌≤◌, ◌^◌, ⊤, ℕ, [], IsSome}
use Rattle.exn_tables.specs.declared.table.Entry.{Entry}
use Rattle.debug_tags.specs.declared.tags.Tag.{Tag}
use Rattle.debug_tags.specs.declared.tags.Tag.TheVariants as tag
use Rattle.ir_core.specs.declared.declarations.Callee.{Callee}
use Rattle.ir_core.specs.declared.instructions.Arg.{Arg}
use Rattle.ir_core.specs.declared.instructions.Arg.TheVariants as arg
use Rattle.ir_core.specs.declared.instructions.BlockCall.{BlockCall}
use Rattle.ir_core.specs.Lists.{Each}
use Rattle.ir_core.specs.Lookup.{type_of, number_in}
use Rattle.ir_core.specs.Module.{Simple, StackLoad, StackStore, FuncAddr, CallTarget, Direct, Indirect, call_target, Instruction, Plain, Call, ReturnCall, TryCall, Line, Block, Function, Module}
use Rattle.ir_core.specs.Uses.{operands, targets}
use Rattle.ir_text.specs.Numbering.{Numbering, numbering_of}
use Rattle.ir_text.specs.Writable.{greatest_number, EntryTagWritable, TableArg}

-- ---- values and blocks: their canonical numbers are those of words

abbrev pub ValueFits : Numbering → ℕ → Type 0
ValueFits n v = number_in n.values v < 2 ^ 64

abbrev pub BlockFits : Numbering → ℕ → Type 0
BlockFits n b = number_in n.blocks b < 2 ^ 64

abbrev pub ArgFits : Numbering → Arg → Type 0
ArgFits n (arg.Value v) = ValueFits n v
ArgFits n (arg.Ret k) = ⊤
ArgFits n (arg.Exn k) = ⊤

abbrev pub TargetFits : Numbering → BlockCall → Type 0
TargetFits n t = BlockFits n t.block × Each (ArgFits n) t.args

-- with what is asked of arguments where the target stands

abbrev pub ArgReads : Numbering → (Arg → Type 0) → Arg → Type 0
ArgReads n P a = P a × ArgFits n a

abbrev pub TargetReads : Numbering → (Arg → Type 0) → BlockCall → Type 0
TargetReads n P t = BlockFits n t.block × Each (ArgReads n P) t.args

abbrev pub EntryReads : Numbering → Entry BlockCall → Type 0
EntryReads n e = EntryTagWritable e.tag × TargetReads n TableArg e.target

-- ---- slots, signatures and callees

abbrev pub SimpleNumbers : Simple → Type 0
SimpleNumbers (StackLoad t slot offset) = slot ≤ greatest_number
SimpleNumbers (StackStore x slot offset) = slot ≤ greatest_number
SimpleNumbers (FuncAddr callee) = callee ≤ greatest_number
SimpleNumbers i = ⊤

abbrev pub CalledNumbers : CallTarget → Type 0
CalledNumbers (Direct callee) = callee ≤ greatest_number
CalledNumbers (Indirect sig p) = sig ≤ greatest_number

abbrev pub Numbers : Instruction → Type 0
Numbers (Plain i) = SimpleNumbers i
Numbers (Call to args) = CalledNumbers to
Numbers (ReturnCall to args) = CalledNumbers to
Numbers (TryCall to sig args normal table) = CalledNumbers (call_target to sig) × (sig ≤ greatest_number)
Numbers i = ⊤

abbrev pub TagSpellable : Tag → Type 0
TagSpellable (tag.User k) = ⊤
TagSpellable (tag.Slot slot) = slot ≤ greatest_number

-- ---- instructions, lines, blocks, functions

pub record Spellable (n : Numbering) (i : Instruction) : Type 0 where
  pub numbers : Numbers i
  pub values : Each (ValueFits n) (operands i)
  pub targets : Each (TargetFits n) (targets i)

pub record LineSpellable (n : Numbering) (l : Line) : Type 0 where
  pub inst : Spellable n l.inst
  pub results : Each (ValueFits n) l.results
  pub tags : Each TagSpellable l.tags

abbrev pub ParamSpellable : Function → Numbering → ℕ → Type 0
ParamSpellable f n v = ValueFits n v × IsSome (type_of f v)

pub record BlockSpellable (f : Function) (n : Numbering) (b : Block) : Type 0 where
  pub name : BlockFits n b.number
  pub params : Each (ParamSpellable f n) b.params
  pub lines : Each (LineSpellable n) b.lines

pub record FunctionSpellable (f : Function) : Type 0 where
  pub blocks : f.blocks ≢ []
  pub each : Each (BlockSpellable f (numbering_of f)) f.blocks
  pub callees : Each (λ (c : Callee). c.sig ≤ greatest_number) f.callees

abbrev pub ModuleSpellable : Module → Type 0
ModuleSpellable m = Each FunctionSpellable m
