-- What an instruction does by its own frame and the memory, as the CLIF reference says of each: it gives values, enters
-- a block, returns, shows its tags, calls, or ends the run.
use Rattle.std.specs.Prelude.{ℕ, zero, suc, List, [], ◌∷◌, Bool, true, false, Option, Some, None, slice_get}
use Rattle.clk_num.specs.Operations.{DataValue, Evaluation, Values, Traps, NoRow, operation}
use Rattle.clk_num.specs.declared.op.TrapCode.TheVariants.{HeapOob}
use Rattle.ir_core.specs.declared.names.FuncName.{FuncName}
use Rattle.ir_core.specs.declared.instructions.Arg.{Arg}
use Rattle.ir_core.specs.declared.instructions.Arg.TheVariants as arg
use Rattle.ir_core.specs.declared.instructions.BlockCall.{BlockCall}
use Rattle.ir_core.specs.Module.{Simple, Nop, Const, Pure, PureImm, Load, Store, StackLoad, StackStore, FuncAddr, Trap}
use Rattle.ir_core.specs.Module.{Trapz, Trapnz, Branch, Jump, Brif, BrTable, CallTarget, Direct, Indirect, call_target}
use Rattle.ir_core.specs.Module.{Instruction, Plain, Branches, SequencePoint, Return, Call, ReturnCall, TryCall}
use Rattle.ir_core.specs.Module.{Function}
use Rattle.ir_core.specs.Lookup.{and_then, width_of}
use Rattle.ir_semantics.specs.Names.{address_of}
use Rattle.ir_semantics.specs.Values.{Env, Slots, Memory, all_of, i64, bytes_in, number_of, bytes_of, bytes_from}
use Rattle.ir_semantics.specs.Values.{put_bytes, slot_place, memory_read, memory_write, address_at, by_endian}
use Rattle.ir_semantics.specs.Values.{bytes_read, loaded, bytes_stored}
use Rattle.ir_semantics.specs.Machine.{End, Trapped, Unwritten, Stuck}

-- what a call calls, by a callee declaration or by a signature and an address
pub data Called : Type 0 where
  ByName : (callee : ℕ) → Called
  ByAddress : (sig address : ℕ) → Called

pub data Effect : Type 0 where
  -- the results get these values
  Go : (values : List DataValue) → Slots → Memory → Effect
  Enter : (block : ℕ) → (values : List DataValue) → Effect
  Give : (values : List DataValue) → Effect
  ShowTags : Effect
  -- a call, in place of the frame or above it
  Do : Called → (args : List DataValue) → (tail : Bool) → Effect
  Stop : End → Effect

abbrev pub need : {A : Type 0} → Option A → End → (A → Effect) → Effect
need None end go = Stop end
need (Some a) end go = go a

-- ---- arguments of a target: values, results of the call, payloads of the exception

abbrev pub arg_value : Env → List DataValue → List DataValue → Arg → Option DataValue
arg_value e results payloads (arg.Value v) = e v
arg_value e results payloads (arg.Ret i) = slice_get results i
arg_value e results payloads (arg.Exn i) = slice_get payloads i

abbrev pub arg_values : Env → List DataValue → List DataValue → BlockCall → Option (List DataValue)
arg_values e results payloads t = all_of (arg_value e results payloads) t.args

-- ---- simple instructions

abbrev pub evaluated : Slots → Memory → Evaluation → Effect
evaluated s m (Values xs) = Go xs s m
evaluated s m (Traps code) = Stop (Trapped code)
evaluated s m NoRow = Stop Stuck

-- the first where a number is not 0
abbrev pub choose : ℕ → Effect → Effect → Effect
choose zero a b = b
choose (suc n) a b = a

-- names: those of the module, in order
abbrev pub simple : List FuncName → Function → Env → Slots → Memory → Simple → Effect
simple names f e s m Nop = Go [] s m
simple names f e s m (Const x) = Go (x ∷ []) s m
simple names f e s m (Pure op args) = need (all_of e args) Stuck (λ xs. evaluated s m (operation op xs))
simple names f e s m (PureImm op a n) = need (e a) Stuck (λ x. evaluated s m (operation op (x ∷ n ∷ [])))
simple names f e s m (Load access flags a offset) =
    need (e a) Stuck
    (λ x. need (memory_read m (address_at x.value offset) (bytes_read access)) (Trapped HeapOob)
    (λ bs. Go (loaded access (number_of (by_endian flags.big bs)) ∷ []) s m))
simple names f e s m (Store narrow flags v a offset) =
    need (e v) Stuck
    (λ y. need (e a) Stuck
    (λ x. need
    (memory_write m (address_at x.value offset)
    (by_endian flags.big (bytes_of (bytes_stored narrow y.width) y.value))) (Trapped HeapOob) (λ m'. Go [] s m')))
simple names f e s m (StackLoad t k offset) =
    need (slot_place f k offset (bytes_in (width_of t))) Stuck
    (λ o. need (bytes_from (s k) o (bytes_in (width_of t))) Unwritten
    (λ bs. Go (record { width = width_of t; value = number_of bs } ∷ []) s m))
simple names f e s m (StackStore v k offset) =
    need (e v) Stuck
    (λ y. need (slot_place f k offset (bytes_in y.width)) Stuck
    (λ o. Go [] (put_bytes s k o (bytes_of (bytes_in y.width) y.value)) m))
simple names f e s m (FuncAddr k) =
    need (slice_get f.callees k) Stuck (λ c. need (address_of names c.name) Stuck (λ a. Go (i64 a ∷ []) s m))
simple names f e s m (Trap code) = Stop (Trapped code)
simple names f e s m (Trapz v code) = need (e v) Stuck (λ x. choose x.value (Go [] s m) (Stop (Trapped code)))
simple names f e s m (Trapnz v code) = need (e v) Stuck (λ x. choose x.value (Stop (Trapped code)) (Go [] s m))

-- ---- branches

abbrev pub go_to : Env → BlockCall → Effect
go_to e t = need (arg_values e [] [] t) Stuck (λ xs. Enter t.block xs)

-- the target of an index, or the one for an index past the end
abbrev pub target_at : List BlockCall → BlockCall → ℕ → BlockCall
target_at [] default i = default
target_at (t ∷ ts) default zero = t
target_at (t ∷ ts) default (suc i) = target_at ts default i

abbrev pub branch : Env → Branch → Effect
branch e (Jump t) = go_to e t
branch e (Brif v t u) = need (e v) Stuck (λ x. choose x.value (go_to e t) (go_to e u))
branch e (BrTable v default ts) = need (e v) Stuck (λ x. go_to e (target_at ts default x.value))

-- ---- calls

abbrev pub called : Env → CallTarget → Option Called
called e (Direct k) = Some (ByName k)
called e (Indirect s a) = and_then (e a) (λ x. Some (ByAddress s x.value))

abbrev pub calls : Env → CallTarget → List ℕ → Bool → Effect
calls e t args tail = need (called e t) Stuck (λ c. need (all_of e args) Stuck (λ xs. Do c xs tail))

abbrev pub effect : List FuncName → Function → Env → Slots → Memory → Instruction → Effect
effect names f e s m (Plain p) = simple names f e s m p
effect names f e s m (Branches b) = branch e b
effect names f e s m SequencePoint = ShowTags
effect names f e s m (Return vs) = need (all_of e vs) Stuck (λ xs. Give xs)
effect names f e s m (Call t args) = calls e t args false
effect names f e s m (ReturnCall t args) = calls e t args true
effect names f e s m (TryCall t sig args normal table) = calls e (call_target t sig) args false
