-- A mark for each function: those with the stamp of a caller are its calls so far.
use Rattle.std.specs.Prelude.{◌≡◌, ℕ, ◌<◌, ◌≤◌, List, [], ◌∷◌, Option, Some, nat_eq, get_or, slice_get}
use Rattle.ir_core.specs.Module.{Line}
use Rattle.ir_core.specs.Lookup.{and_then}
use Rattle.ir_core.specs.Uses.{callee_of}
use Rattle.call_graph.specs.Calls.{has, with_number}

abbrev pub Fresh : ℕ → List ℕ → Type 0
Fresh stamp seen = (t : ℕ) → get_or seen t 0 < stamp

abbrev pub Marked : ℕ → List ℕ → List ℕ → Type 0
Marked stamp seen calls = (t : ℕ) → (get_or seen t 0 ≤ stamp) × (nat_eq (get_or seen t 0) stamp ≡ has t calls)

-- by the numbers of the declarations, the function that a line calls
abbrev pub target_by : List (Option ℕ) → Line → Option ℕ
target_by numbers l = and_then (callee_of l.inst) (λ k. and_then (slice_get numbers k) (λ n. n))

abbrev pub targets_in : List (Option ℕ) → List Line → List ℕ
targets_in numbers [] = []
targets_in numbers (l ∷ ls) = with_number (target_by numbers l) (targets_in numbers ls)

abbrev pub TargetsBelow : ℕ → List (Option ℕ) → Type 0
TargetsBelow count numbers = (k t : ℕ) → slice_get numbers k ≡ Some (Some t) → t < count
