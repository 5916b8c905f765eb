-- The rule on numbers: of results, arguments, returned values and parameters.
use Rattle.std.specs.Prelude.{◌≡◌, ◌<◌, ⊤, ℕ, List, ◌∷◌, length, Option, Some, None, IsSomeAnd}
use Rattle.clk_num.specs.declared.op.Op.{Op}
use Rattle.clk_num.specs.declared.op.Op.TheVariants as op
use Rattle.ir_core.specs.declared.signatures.Sig.{Sig}
use Rattle.ir_core.specs.declared.instructions.Arg.{Arg}
use Rattle.ir_core.specs.declared.instructions.Arg.TheVariants as arg
use Rattle.ir_core.specs.declared.instructions.BlockCall.{BlockCall}
use Rattle.ir_core.specs.Module.{Simple, Nop, Const, Pure, PureImm, Load, Store, StackLoad, StackStore, FuncAddr, Trap}
use Rattle.ir_core.specs.Module.{Trapz, Trapnz, CallTarget, call_target, Instruction, Plain, Branches, SequencePoint}
use Rattle.ir_core.specs.Module.{Return, Call, ReturnCall, TryCall, Line, Block, Function}
use Rattle.ir_core.specs.Lookup.{find_block, signature_of}
use Rattle.ir_core.specs.Lists.{Each}
use Rattle.ir_core.specs.Uses.{targets, table_targets}

-- ---- CountMismatch: numbers of results, arguments, returned values and parameters

abbrev pub op_results : Op → ℕ
op_results op.UaddOverflow = 2
op_results op.SaddOverflow = 2
op_results op.UsubOverflow = 2
op_results op.SsubOverflow = 2
op_results op.Isplit = 2
op_results _ = 1

abbrev pub simple_results : Simple → ℕ
simple_results Nop = 0
simple_results (Const x) = 1
simple_results (Pure o args) = op_results o
simple_results (PureImm o a imm) = op_results o
simple_results (Load access flags a offset) = 1
simple_results (Store narrow flags v a offset) = 0
simple_results (StackLoad t k offset) = 1
simple_results (StackStore v k offset) = 0
simple_results (FuncAddr k) = 1
simple_results (Trap code) = 0
simple_results (Trapz v code) = 0
simple_results (Trapnz v code) = 0

abbrev pub Below : Option ℕ → ℕ → Type 0
Below None i = ⊤
Below (Some n) i = i < n

-- results: those of the signature of the call that has the target, if a call has it
abbrev pub ArgCounts : Option ℕ → Arg → Type 0
ArgCounts results (arg.Value v) = ⊤
ArgCounts results (arg.Ret i) = Below results i
ArgCounts results (arg.Exn i) = i < 2

abbrev pub TargetCounts : Function → Option ℕ → BlockCall → Type 0
TargetCounts f results t =
    IsSomeAnd (find_block t.block f.blocks) (λ b. length t.args ≡ length b.params) × Each (ArgCounts results) t.args

abbrev pub CallCounts : Function → CallTarget → List ℕ → (Sig → Type 0) → Type 0
CallCounts f t args More = IsSomeAnd (signature_of f t) (λ sig. (length args ≡ length sig.params) × More sig)

abbrev pub InstructionCounts : Function → Line → Instruction → Type 0
InstructionCounts f l (Plain p) = length l.results ≡ simple_results p
InstructionCounts f l (Branches b) = (length l.results ≡ 0) × Each (TargetCounts f None) (targets (Branches b))
InstructionCounts f l SequencePoint = length l.results ≡ 0
InstructionCounts f l (Return vs) = (length l.results ≡ 0) × (length vs ≡ length f.sig.results)
InstructionCounts f l (Call t args) = CallCounts f t args (λ sig. length l.results ≡ length sig.results)
InstructionCounts f l (ReturnCall t args) =
    CallCounts f t args (λ sig. (length l.results ≡ 0) × (length sig.results ≡ length f.sig.results))
InstructionCounts f l (TryCall t sig args normal table) =
    CallCounts f (call_target t sig) args
    (λ s. (length l.results ≡ 0) × Each (TargetCounts f (Some (length s.results))) (normal ∷ table_targets table))

abbrev pub Counts : Function → Line → Type 0
Counts f l = InstructionCounts f l l.inst

abbrev pub EntryCounts : Function → Block → Type 0
EntryCounts f b = length b.params ≡ length f.sig.params
