-- What the effect of an instruction can be: only a return gives values, only a call calls, only a point shows its tags.
-- what an instruction can come to
use Rattle.std.proofs.Common.{ℕ, zero, suc, List, [], ◌∷◌, Option, Some, None, Bool, true, false}
use Rattle.std.specs.Prelude.{slice_get}
use Rattle.ir_core.specs.declared.names.FuncName.{FuncName}
use Rattle.ir_core.specs.declared.instructions.BlockCall.{BlockCall}
use Rattle.clk_num.specs.Operations.{DataValue, Evaluation, Values, Traps, NoRow, operation}
use Rattle.clk_num.specs.declared.op.TrapCode.TheVariants.{HeapOob}
use Rattle.ir_core.specs.Module.{BrTable, Branch, Branches, Brif, Call, CallTarget, Const, FuncAddr, Function, Instruction, Jump, Load, Nop, Plain, Pure, PureImm, Return, ReturnCall, SequencePoint, Simple, StackLoad, StackStore, Store, Trap, Trapnz, Trapz, TryCall, call_target}
use Rattle.ir_core.specs.Lookup.{width_of}
use Rattle.ir_semantics.specs.Names.{address_of}
use Rattle.ir_semantics.specs.Values.{Env, Memory, Slots, address_at, all_of, by_endian, bytes_from, bytes_in, bytes_of, bytes_read, bytes_stored, i64, loaded, memory_read, memory_write, number_of, put_bytes, slot_place}
use Rattle.ir_semantics.specs.Machine.{End, Stuck, Trapped, Unwritten}
use Rattle.ir_semantics.specs.Effect.{Called, Do, Effect, Enter, Give, Go, ShowTags, Stop, arg_values, branch, called, calls, choose, effect, evaluated, go_to, need, simple, target_at}
use Rattle.inline_outcomes.proofs.Related.{Waiting}

abbrev pub IsReturn : Instruction → Type 0
IsReturn (Return vs) = Unit {0}
IsReturn _ = ⊥

abbrev pub IsTail : Instruction → Type 0
IsTail (ReturnCall t args) = Unit {0}
IsTail _ = ⊥

abbrev pub IsPoint : Instruction → Type 0
IsPoint SequencePoint = Unit {0}
IsPoint _ = ⊥

abbrev pub Comes_to : Instruction → Effect → Type 0
Comes_to i (Go values s m) = Unit {0}
Comes_to i (Enter b values) = Unit {0}
Comes_to i (Give values) = IsReturn i
Comes_to i ShowTags = IsPoint i
Comes_to i (Do c args true) = IsTail i
Comes_to i (Do c args false) = Waiting i
Comes_to i (Stop end) = Unit {0}

need_comes : {A : Type 0} (i : Instruction) (o : Option A) (end : End) (go : A → Effect) → ((a : A) → Comes_to i (go a)) → Comes_to i (need o end go)
need_comes i None end go h = tt
need_comes i (Some a) end go h = h a

choose_comes : (i : Instruction) (x : ℕ) (a b : Effect) → Comes_to i a → Comes_to i b → Comes_to i (choose x a b)
choose_comes i zero a b h k = k
choose_comes i (suc x) a b h k = h

evaluated_comes : (i : Instruction) (s : Slots) (m : Memory) (v : Evaluation) → Comes_to i (evaluated s m v)
evaluated_comes i s m (Values xs) = tt
evaluated_comes i s m (Traps code) = tt
evaluated_comes i s m NoRow = tt

simple_comes : (ns : List FuncName) (f : Function) (e : Env) (s : Slots) (m : Memory) (i : Instruction) (p : Simple) → Comes_to i (simple ns f e s m p)
simple_comes ns f e s m i Nop = tt
simple_comes ns f e s m i (Const x) = tt
simple_comes ns f e s m i (Pure op args) = need_comes i (all_of e args) Stuck (λ xs. evaluated s m (operation op xs)) (λ xs. evaluated_comes i s m (operation op xs))
simple_comes ns f e s m i (PureImm op a n) = need_comes i (e a) Stuck (λ x. evaluated s m (operation op (x ∷ n ∷ []))) (λ x. evaluated_comes i s m (operation op (x ∷ n ∷ [])))
simple_comes ns f e s m i (Load access flags a offset) =
    need_comes i (e a) Stuck (λ x. need (memory_read m (address_at x.value offset) (bytes_read access)) (Trapped HeapOob) (λ bs. Go (loaded access (number_of (by_endian flags.big bs)) ∷ []) s m)) (λ x. need_comes i (memory_read m (address_at x.value offset) (bytes_read access)) (Trapped HeapOob) (λ bs. Go (loaded access (number_of (by_endian flags.big bs)) ∷ []) s m) (λ y. tt))
simple_comes ns f e s m i (Store narrow flags v a offset) =
    need_comes i (e v) Stuck (λ y. need (e a) Stuck (λ x. need (memory_write m (address_at x.value offset) (by_endian flags.big (bytes_of (bytes_stored narrow y.width) y.value))) (Trapped HeapOob) (λ m'. Go [] s m'))) (λ y. need_comes i (e a) Stuck (λ x. need (memory_write m (address_at x.value offset) (by_endian flags.big (bytes_of (bytes_stored narrow y.width) y.value))) (Trapped HeapOob) (λ m'. Go [] s m')) (λ x. need_comes i (memory_write m (address_at x.value offset) (by_endian flags.big (bytes_of (bytes_stored narrow y.width) y.value))) (Trapped HeapOob) (λ m'. Go [] s m') (λ z. tt)))
simple_comes ns f e s m i (StackLoad t k offset) =
    need_comes i (slot_place f k offset (bytes_in (width_of t))) Stuck (λ o. need (bytes_from (s k) o (bytes_in (width_of t))) Unwritten (λ bs. Go (record { width = width_of t; value = number_of bs } ∷ []) s m)) (λ o. need_comes i (bytes_from (s k) o (bytes_in (width_of t))) Unwritten (λ bs. Go (record { width = width_of t; value = number_of bs } ∷ []) s m) (λ x. tt))
simple_comes ns f e s m i (StackStore v k offset) =
    need_comes i (e v) Stuck (λ y. need (slot_place f k offset (bytes_in y.width)) Stuck (λ o. Go [] (put_bytes s k o (bytes_of (bytes_in y.width) y.value)) m)) (λ y. need_comes i (slot_place f k offset (bytes_in y.width)) Stuck (λ o. Go [] (put_bytes s k o (bytes_of (bytes_in y.width) y.value)) m) (λ x. tt))
simple_comes ns f e s m i (FuncAddr k) =
    need_comes i (slice_get f.callees k) Stuck (λ c. need (address_of ns c.name) Stuck (λ a. Go (i64 a ∷ []) s m)) (λ c. need_comes i (address_of ns c.name) Stuck (λ a. Go (i64 a ∷ []) s m) (λ x. tt))
simple_comes ns f e s m i (Trap code) = tt
simple_comes ns f e s m i (Trapz v code) = need_comes i (e v) Stuck (λ x. choose x.value (Go [] s m) (Stop (Trapped code))) (λ x. choose_comes i x.value (Go [] s m) (Stop (Trapped code)) tt tt)
simple_comes ns f e s m i (Trapnz v code) = need_comes i (e v) Stuck (λ x. choose x.value (Stop (Trapped code)) (Go [] s m)) (λ x. choose_comes i x.value (Stop (Trapped code)) (Go [] s m) tt tt)

go_comes : (e : Env) (i : Instruction) (t : BlockCall) → Comes_to i (go_to e t)
go_comes e i t = need_comes i (arg_values e [] [] t) Stuck (λ xs. Enter t.block xs) (λ x. tt)

branch_comes : (e : Env) (i : Instruction) (c : Branch) → Comes_to i (branch e c)
branch_comes e i (Jump t) = go_comes e i t
branch_comes e i (Brif v a b) = need_comes i (e v) Stuck (λ x. choose x.value (go_to e a) (go_to e b)) (λ x. choose_comes i x.value (go_to e a) (go_to e b) (go_comes e i a) (go_comes e i b))
branch_comes e i (BrTable v default ts) = need_comes i (e v) Stuck (λ x. go_to e (target_at ts default x.value)) (λ x. go_comes e i (target_at ts default x.value))

calls_comes : (e : Env) (i : Instruction) (t : CallTarget) (args : List ℕ) (tail : Bool) → ((c : Called) (xs : List DataValue) → Comes_to i (Do c xs tail)) → Comes_to i (calls e t args tail)
calls_comes e i t args tail h = need_comes i (called e t) Stuck (λ c. need (all_of e args) Stuck (λ xs. Do c xs tail)) (λ c. need_comes i (all_of e args) Stuck (λ xs. Do c xs tail) (λ xs. h c xs))

pub comes_to : (ns : List FuncName) (f : Function) (e : Env) (s : Slots) (m : Memory) (i : Instruction) → Comes_to i (effect ns f e s m i)
comes_to ns f e s m (Plain p) = simple_comes ns f e s m (Plain p) p
comes_to ns f e s m (Branches c) = branch_comes e (Branches c) c
comes_to ns f e s m SequencePoint = tt
comes_to ns f e s m (Return vs) = need_comes (Return vs) (all_of e vs) Stuck (λ xs. Give xs) (λ x. tt)
comes_to ns f e s m (Call t args) = calls_comes e (Call t args) t args false (λ c xs. tt)
comes_to ns f e s m (ReturnCall t args) = calls_comes e (ReturnCall t args) t args true (λ c xs. tt)
comes_to ns f e s m (TryCall t sig args normal table) = calls_comes e (TryCall t sig args normal table) (call_target t sig) args false (λ c xs. tt)
