-- The rule on types: those of the same things in order, and those that the instruction's form gives.
use Rattle.std.specs.Prelude.{◌≡◌, ◌≢◌, ◌*◌, ⊤, ℕ, List, [], ◌∷◌, map, Option, Some, None, Bool, true, false, ◌&&◌}
use Rattle.std.specs.Prelude.{◌||◌, nat_lt, nat_le, ◌==◌, IsSomeAnd, IsTrue, slice_get}
use Rattle.clk_num.specs.Width.{bits_of}
use Rattle.clk_num.specs.declared.width.Width.{Width}
use Rattle.clk_num.specs.declared.width.Width.TheVariants.{W128}
use Rattle.clk_num.specs.declared.op.Op.{Op}
use Rattle.clk_num.specs.Rows.{row}
use Rattle.ir_core.specs.declared.signatures.Ty.{Ty}
use Rattle.ir_core.specs.declared.signatures.Ty.TheVariants.{I32, I64}
use Rattle.ir_core.specs.declared.signatures.Sig.{Sig}
use Rattle.ir_core.specs.declared.instructions.Arg.{Arg}
use Rattle.ir_core.specs.declared.instructions.Arg.TheVariants as arg
use Rattle.ir_core.specs.declared.instructions.BlockCall.{BlockCall}
use Rattle.ir_core.specs.declared.instructions.Access.{Access}
use Rattle.ir_core.specs.declared.instructions.Access.TheVariants.{Full, Uload, Sload}
use Rattle.ir_core.specs.Module.{Simple, Nop, Const, Pure, PureImm, Load, Store, StackLoad, StackStore, FuncAddr, Trap}
use Rattle.ir_core.specs.Module.{Trapz, Trapnz, Branch, Jump, Brif, BrTable, CallTarget, Direct, Indirect, call_target}
use Rattle.ir_core.specs.Module.{Instruction, Plain, Branches, SequencePoint, Return, Call, ReturnCall, TryCall, Line}
use Rattle.ir_core.specs.Module.{Block, Function}
use Rattle.ir_core.specs.Lookup.{and_then, find_block, type_of, signature_of, param_types, width_of, ty_of}
use Rattle.ir_core.specs.Forms.{has_immediate, ValueInRange, controlling, access_type, flags_form}
use Rattle.ir_core.specs.Lists.{Each}
use Rattle.ir_semantics.specs.Values.{all_of}
use Rattle.ir_core.specs.Uses.{targets, table_targets}

-- ---- TypeMismatch: the types of the same things in order, and those that the instruction's form gives

abbrev pub types_of : Function → List ℕ → List (Option Ty)
types_of f vs = map (type_of f) vs

abbrev pub each_some : List Ty → List (Option Ty)
each_some ts = map (λ t. Some t) ts

abbrev pub HaveTypes : Function → List ℕ → List Ty → Type 0
HaveTypes f vs ts = types_of f vs ≡ each_some ts

abbrev pub arg_type : Function → List Ty → List Ty → Arg → Option Ty
arg_type f results payloads (arg.Value v) = type_of f v
arg_type f results payloads (arg.Ret i) = slice_get results i
arg_type f results payloads (arg.Exn i) = slice_get payloads i

-- results and payloads: the types of those that may stand in the target
abbrev pub TargetTypes : Function → List Ty → List Ty → BlockCall → Type 0
TargetTypes f results payloads t =
    IsSomeAnd (find_block t.block f.blocks) (λ b. map (arg_type f results payloads) t.args ≡ types_of f b.params)

abbrev pub type_at : Function → Option ℕ → Option Ty
type_at f None = None
type_at f (Some v) = type_of f v

-- n bytes of an access that is narrower than its type
abbrev pub is_narrow : ℕ → Ty → Bool
is_narrow n t =
    (n == 1 || n == 2 || n == 4) && nat_lt (8 * n) (bits_of (width_of t)) && nat_le (bits_of (width_of t)) 64

abbrev pub access_form : Access → Bool
access_form (Full t) = true
access_form (Uload t n) = is_narrow n t
access_form (Sload t n) = is_narrow n t

-- of a read of 32 bits alone the suffix may be left out
abbrev pub suffix_of_bytes : ℕ → Option Ty
suffix_of_bytes n = elim (n == 4) [ true ↦ Some I64 | false ↦ None ]

abbrev pub access_suffix : Access → Option Ty
access_suffix (Full t) = None
access_suffix (Uload t n) = suffix_of_bytes n
access_suffix (Sload t n) = suffix_of_bytes n

abbrev pub store_form : Option ℕ → Ty → Bool
store_form None t = true
store_form (Some n) t = is_narrow n t

abbrev pub width_at : Function → ℕ → Option Width
width_at f v = and_then (type_of f v) (λ t. Some (width_of t))

abbrev pub widths_of_values : Function → List ℕ → Option (List Width)
widths_of_values f vs = all_of (width_at f) vs

abbrev pub OpTypes : Function → Line → Op → Option (List Width) → Type 0
OpTypes f l o ws =
    IsSomeAnd ws (λ given. IsSomeAnd (row o given) (λ results. HaveTypes f l.results (map ty_of results)))

abbrev pub SimpleTypes : Function → Line → Simple → Type 0
SimpleTypes f l Nop = l.ty ≡ None
SimpleTypes f l (Const x) =
    (l.ty ≡ None) × (x.width ≢ W128) × ValueInRange x × HaveTypes f l.results (ty_of x.width ∷ [])
SimpleTypes f l (Pure o args) = OpTypes f l o (widths_of_values f args) × (l.ty ≡ type_at f (controlling o args))
SimpleTypes f l (PureImm o a imm) =
    IsTrue (has_immediate o) × ValueInRange imm
    × IsSomeAnd (type_of f a) (λ t. (l.ty ≡ Some t) × (imm.width ≡ width_of t)
    × OpTypes f l o (Some (width_of t ∷ imm.width ∷ [])))
SimpleTypes f l (Load access flags a offset) =
    (l.ty ≡ access_suffix access) × IsTrue (flags_form flags) × IsTrue (access_form access) × (type_of f a ≡ Some I64)
    × HaveTypes f l.results (access_type access ∷ [])
SimpleTypes f l (Store narrow flags v a offset) =
    IsTrue (flags_form flags) × (type_of f a ≡ Some I64)
    × IsSomeAnd (type_of f v) (λ t. (l.ty ≡ Some t) × IsTrue (store_form narrow t))
SimpleTypes f l (StackLoad t k offset) = (l.ty ≡ None) × HaveTypes f l.results (t ∷ [])
SimpleTypes f l (StackStore v k offset) = IsSomeAnd (type_of f v) (λ t. l.ty ≡ Some t)
SimpleTypes f l (FuncAddr k) = (l.ty ≡ None) × HaveTypes f l.results (I64 ∷ [])
SimpleTypes f l (Trap code) = l.ty ≡ None
SimpleTypes f l (Trapz v code) = IsSomeAnd (type_of f v) (λ t. l.ty ≡ Some t)
SimpleTypes f l (Trapnz v code) = IsSomeAnd (type_of f v) (λ t. l.ty ≡ Some t)

abbrev pub BranchTypes : Function → Line → Branch → Type 0
BranchTypes f l (Jump t) = l.ty ≡ None
BranchTypes f l (Brif v t u) = IsSomeAnd (type_of f v) (λ ty. l.ty ≡ Some ty)
BranchTypes f l (BrTable v default ts) = (l.ty ≡ None) × (type_of f v ≡ Some I32)

abbrev pub CalledTypes : Function → CallTarget → Type 0
CalledTypes f (Direct k) = ⊤
CalledTypes f (Indirect s a) = type_of f a ≡ Some I64

abbrev pub CallTypes : Function → Line → CallTarget → List ℕ → (Sig → Type 0) → Type 0
CallTypes f l t args More =
    (l.ty ≡ None) × CalledTypes f t
    × IsSomeAnd (signature_of f t) (λ sig. HaveTypes f args (param_types sig.params) × More sig)

abbrev pub InstructionTypes : Function → Line → Instruction → Type 0
InstructionTypes f l (Plain p) = SimpleTypes f l p
InstructionTypes f l (Branches b) = BranchTypes f l b × Each (TargetTypes f [] []) (targets (Branches b))
InstructionTypes f l SequencePoint = l.ty ≡ None
InstructionTypes f l (Return vs) = (l.ty ≡ None) × HaveTypes f vs (param_types f.sig.results)
InstructionTypes f l (Call t args) = CallTypes f l t args (λ sig. HaveTypes f l.results (param_types sig.results))
InstructionTypes f l (ReturnCall t args) =
    CallTypes f l t args (λ sig. param_types sig.results ≡ param_types f.sig.results)
InstructionTypes f l (TryCall t sig args normal table) =
    CallTypes f l (call_target t sig) args
    (λ s. TargetTypes f (param_types s.results) [] normal
    × Each (TargetTypes f [] (I64 ∷ I64 ∷ [])) (table_targets table))

abbrev pub Types : Function → Line → Type 0
Types f l = InstructionTypes f l l.inst

abbrev pub EntryTypes : Function → Block → Type 0
EntryTypes f b = HaveTypes f b.params (param_types f.sig.params)
