-- What an instruction uses: values, targets, and the numbers of slots, signatures and callees.
use Rattle.std.specs.Prelude.{ℕ, List, [], ◌∷◌, ◌++◌, map, Option, Some, None}
use Rattle.exn_tables.specs.declared.table.Entry.{Entry}
use Rattle.debug_tags.specs.declared.tags.Tag.{Tag}
use Rattle.debug_tags.specs.declared.tags.Tag.TheVariants as tag
use Rattle.ir_core.specs.declared.instructions.Arg.{Arg}
use Rattle.ir_core.specs.declared.instructions.Arg.TheVariants as arg
use Rattle.ir_core.specs.declared.instructions.BlockCall.{BlockCall}
use Rattle.ir_core.specs.Module.{Simple, Nop, Const, Pure, PureImm, Load, Store, StackLoad, StackStore, FuncAddr, Trap}
use Rattle.ir_core.specs.Module.{Trapz, Trapnz, Branch, Jump, Brif, BrTable, CallTarget, Direct, Indirect, call_target}
use Rattle.ir_core.specs.Module.{Instruction, Plain, Branches, SequencePoint, Return, Call, ReturnCall, TryCall}

-- ---- targets

abbrev pub table_targets : List (Entry BlockCall) → List BlockCall
table_targets [] = []
table_targets (e ∷ es) = e.target ∷ table_targets es

abbrev pub branch_targets : Branch → List BlockCall
branch_targets (Jump t) = t ∷ []
branch_targets (Brif v t u) = t ∷ u ∷ []
branch_targets (BrTable v default ts) = default ∷ ts

abbrev pub targets : Instruction → List BlockCall
targets (Branches b) = branch_targets b
targets (TryCall t sig args normal table) = normal ∷ table_targets table
targets _ = []

-- ---- values, those of target arguments among them

abbrev pub arg_values_used : List Arg → List ℕ
arg_values_used [] = []
arg_values_used (arg.Value v ∷ as') = v ∷ arg_values_used as'
arg_values_used (arg.Ret i ∷ as') = arg_values_used as'
arg_values_used (arg.Exn i ∷ as') = arg_values_used as'

abbrev pub targets_used : List BlockCall → List ℕ
targets_used [] = []
targets_used (t ∷ ts) = arg_values_used t.args ++ targets_used ts

abbrev pub simple_used : Simple → List ℕ
simple_used Nop = []
simple_used (Const x) = []
simple_used (Pure op args) = args
simple_used (PureImm op a imm) = a ∷ []
simple_used (Load access flags a offset) = a ∷ []
simple_used (Store narrow flags v a offset) = v ∷ a ∷ []
simple_used (StackLoad t k offset) = []
simple_used (StackStore v k offset) = v ∷ []
simple_used (FuncAddr k) = []
simple_used (Trap code) = []
simple_used (Trapz v code) = v ∷ []
simple_used (Trapnz v code) = v ∷ []

abbrev pub branch_used : Branch → List ℕ
branch_used (Jump t) = []
branch_used (Brif v t u) = v ∷ []
branch_used (BrTable v default ts) = v ∷ []

abbrev pub called_used : CallTarget → List ℕ
called_used (Direct k) = []
called_used (Indirect s a) = a ∷ []

-- the values of an instruction's own operands
abbrev pub operands : Instruction → List ℕ
operands (Plain p) = simple_used p
operands (Branches b) = branch_used b
operands SequencePoint = []
operands (Return vs) = vs
operands (Call t args) = called_used t ++ args
operands (ReturnCall t args) = called_used t ++ args
operands (TryCall t sig args normal table) = called_used (call_target t sig) ++ args

abbrev pub values_used : Instruction → List ℕ
values_used i = operands i ++ targets_used (targets i)

-- ---- declarations

abbrev pub simple_slots : Simple → List ℕ
simple_slots (StackLoad t k offset) = k ∷ []
simple_slots (StackStore v k offset) = k ∷ []
simple_slots _ = []

abbrev pub slots_used : Instruction → List ℕ
slots_used (Plain p) = simple_slots p
slots_used _ = []

abbrev pub slots_shown : List Tag → List ℕ
slots_shown [] = []
slots_shown (tag.User n ∷ ts) = slots_shown ts
slots_shown (tag.Slot k ∷ ts) = k ∷ slots_shown ts

abbrev pub called_callees : CallTarget → List ℕ
called_callees (Direct k) = k ∷ []
called_callees (Indirect s a) = []

abbrev pub simple_callees : Simple → List ℕ
simple_callees (FuncAddr k) = k ∷ []
simple_callees _ = []

abbrev pub callees_used : Instruction → List ℕ
callees_used (Plain p) = simple_callees p
callees_used (Call t args) = called_callees t
callees_used (ReturnCall t args) = called_callees t
callees_used (TryCall t sig args normal table) = called_callees (call_target t sig)
callees_used _ = []

abbrev pub called_sigs : CallTarget → List ℕ
called_sigs (Direct k) = []
called_sigs (Indirect s a) = s ∷ []

abbrev pub sigs_used : Instruction → List ℕ
sigs_used (Call t args) = called_sigs t
sigs_used (ReturnCall t args) = called_sigs t
sigs_used (TryCall t sig args normal table) = sig ∷ []
sigs_used _ = []

abbrev pub blocks_used : Instruction → List ℕ
blocks_used i = map (λ t. t.block) (targets i)

-- ---- the callee that a call names

abbrev pub named_callee : CallTarget → Option ℕ
named_callee (Direct k) = Some k
named_callee (Indirect s a) = None

-- the callee declaration that a direct call names
abbrev pub callee_of : Instruction → Option ℕ
callee_of (Call t args) = named_callee t
callee_of (ReturnCall t args) = named_callee t
callee_of (TryCall t sig args normal table) = named_callee (call_target t sig)
callee_of _ = None
