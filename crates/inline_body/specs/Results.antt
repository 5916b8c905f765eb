-- The new results that a plain call's body has: each tail call of the callee becomes a call with as many results as the
-- site has.
use Rattle.std.specs.Prelude.{ℕ, zero, suc, ◌+◌, ◌*◌, ◌≤◌, List, [], ◌∷◌, ◌++◌, Bool, true, false, if◌then◌else◌}
use Rattle.std.specs.Prelude.{slice_set}
use Rattle.ir_core.specs.Lists.{Each}
use Rattle.ir_core.specs.Module.{Instruction, Plain, Branches, SequencePoint, Return, Call, ReturnCall, TryCall, Line}
use Rattle.ir_core.specs.Module.{Block}

abbrev pub is_tail_call : Instruction → Bool
is_tail_call (Plain p) = false
is_tail_call (Branches b) = false
is_tail_call SequencePoint = false
is_tail_call (Return vs) = false
is_tail_call (Call t args) = false
is_tail_call (ReturnCall t args) = true
is_tail_call (TryCall t sig args normal table) = false

-- how many of the lines are tail calls
abbrev pub tail_calls : List Line → ℕ
tail_calls [] = 0
tail_calls (l ∷ ls) = (if is_tail_call l.inst then 1 else 0) + tail_calls ls

abbrev pub tail_calls_in : List Block → ℕ
tail_calls_in [] = 0
tail_calls_in (b ∷ bs) = tail_calls b.lines + tail_calls_in bs

-- a block has one tail call at most
abbrev pub OneTail : List Block → Type 0
OneTail bs = Each (λ b. tail_calls b.lines ≤ 1) bs

-- the first new result of each block, in list order, where each tail call has `count`
abbrev pub starts_along : ℕ → ℕ → List Block → List ℕ
starts_along n count [] = []
starts_along n count (b ∷ bs) = n ∷ starts_along (n + count * tail_calls b.lines) count bs

-- a list so many times
abbrev pub repeated : {A : Type 0} → ℕ → List A → List A
repeated zero xs = []
repeated (suc n) xs = xs ++ repeated n xs

-- a table with each value at its key
abbrev pub with_values : List ℕ → List ℕ → List ℕ → List ℕ
with_values t [] vs = t
with_values t (k ∷ ks) [] = t
with_values t (k ∷ ks) (v ∷ vs) = with_values (slice_set t k v) ks vs
