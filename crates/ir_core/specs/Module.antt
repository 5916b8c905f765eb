-- A module as plain lists: what contracts see of a function, and what every definition speaks of. Numbers of values,
-- blocks, slots, signatures and callees are natural numbers without an end. The parts are those of the CLIF reference;
-- names, signatures, declarations, targets, tables and tags are the types of the code, seen as plain data.
use Rattle.std.specs.Prelude.{ℕ, ℤ, List, Option}
use Rattle.clk_num.specs.Operations.{DataValue}
use Rattle.clk_num.specs.declared.op.Op.{Op}
use Rattle.clk_num.specs.declared.op.TrapCode.{TrapCode}
use Rattle.exn_tables.specs.declared.table.Entry.{Entry}
use Rattle.debug_tags.specs.declared.tags.Tag.{Tag}
use Rattle.ir_core.specs.declared.signatures.Ty.{Ty}
use Rattle.ir_core.specs.declared.signatures.Sig.{Sig}
use Rattle.ir_core.specs.declared.names.FuncName.{FuncName}
use Rattle.ir_core.specs.declared.declarations.SlotDecl.{SlotDecl}
use Rattle.ir_core.specs.declared.declarations.Callee.{Callee}
use Rattle.ir_core.specs.declared.instructions.BlockCall.{BlockCall}
use Rattle.ir_core.specs.declared.instructions.Flags.{Flags}
use Rattle.ir_core.specs.declared.instructions.Access.{Access}

-- an instruction that gives values, reads or writes, or ends the run, by its own frame and the memory alone
pub data Simple : Type 0 where
  Nop : Simple
  Const : DataValue → Simple
  Pure : Op → (args : List ℕ) → Simple
  PureImm : Op → (arg : ℕ) → (imm : DataValue) → Simple
  Load : Access → Flags → (address : ℕ) → (offset : ℤ) → Simple
  -- the number of bytes stored, where it is fewer than the value has
  Store : (narrow : Option ℕ) → Flags → (value address : ℕ) → (offset : ℤ) → Simple
  StackLoad : Ty → (slot : ℕ) → (offset : ℤ) → Simple
  StackStore : (value slot : ℕ) → (offset : ℤ) → Simple
  FuncAddr : (callee : ℕ) → Simple
  Trap : TrapCode → Simple
  Trapz : (cond : ℕ) → TrapCode → Simple
  Trapnz : (cond : ℕ) → TrapCode → Simple

-- a branch to a block of the function
pub data Branch : Type 0 where
  Jump : BlockCall → Branch
  Brif : (cond : ℕ) → (taken other : BlockCall) → Branch
  BrTable : (index : ℕ) → (default : BlockCall) → (entries : List BlockCall) → Branch

-- what a call calls: a callee declaration, or a signature and the value that is an address
pub data CallTarget : Type 0 where
  Direct : (callee : ℕ) → CallTarget
  Indirect : (sig address : ℕ) → CallTarget

-- what a `try_call` calls: a callee declaration, or the value that is an address; its signature stands beside it
pub data TryTarget : Type 0 where
  TryDirect : (callee : ℕ) → TryTarget
  TryIndirect : (address : ℕ) → TryTarget

abbrev pub call_target : TryTarget → (sig : ℕ) → CallTarget
call_target (TryDirect callee) sig = Direct callee
call_target (TryIndirect address) sig = Indirect sig address

pub data Instruction : Type 0 where
  Plain : Simple → Instruction
  Branches : Branch → Instruction
  SequencePoint : Instruction
  Return : List ℕ → Instruction
  Call : CallTarget → (args : List ℕ) → Instruction
  ReturnCall : CallTarget → (args : List ℕ) → Instruction
  -- with the signature that it names, its normal target and its exception table
  TryCall : TryTarget → (sig : ℕ) → (args : List ℕ) → (normal : BlockCall) → (table : List (Entry BlockCall))
      → Instruction

-- an instruction with its controlling type, where its form may leave the suffix out, its results and its debug tags
pub record Line : Type 0 where
  pub inst : Instruction
  pub ty : Option Ty
  pub results : List ℕ
  pub tags : List Tag

pub record Block : Type 0 where
  pub number : ℕ
  pub params : List ℕ
  pub lines : List Line

-- `types` has each declared value with its type
pub record Function : Type 0 where
  pub name : FuncName
  pub sig : Sig
  pub slots : List SlotDecl
  pub sigs : List Sig
  pub callees : List Callee
  pub types : List (ℕ × Ty)
  pub blocks : List Block

abbrev pub Module : Type 0
Module = List Function
