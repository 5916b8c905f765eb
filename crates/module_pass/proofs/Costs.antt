-- The steps that the bodies in the places cost.
use Rattle.std.proofs.Common.{◌≡◌, ℕ, zero, suc, ◌+◌, ◌<◌, List, [], ◌∷◌, length, map, sum, set, replicate}
use Rattle.std.proofs.Common.{Option, Some, None, refl, arith}
use Rattle.std.specs.Prelude.{slice_get}
use Rattle.std.proofs.lemmas.List.{length-replicate}
use Rattle.std.proofs.lemmas.List.Sums.{sum_by-cons}
use Rattle.ir_core.specs.Module.{Function, Module}
use Rattle.call_graph.proofs.Numbers.{some_at}
use Rattle.inline_pass.specs.Inlined.{inlined, all_inlined}
use Rattle.inline_finish.specs.declared.bodies.Built.{Built}
use Rattle.inline_finish.specs.declared.bodies.Policy.{Policy}
use Rattle.inline_finish.specs.Building.{policy_of}
use Rattle.module_pass.specs.Places.{AreBuilt, AllFilled}
use Rattle.module_pass.proofs.Filled.{is_of}

-- a step for each body and one for each of its inlined sites
abbrev pub cost : List (Option Built) → ℕ
cost [] = 0
cost (None ∷ places) = cost places
cost (Some b ∷ places) = 1 + b.inlined + cost places

-- ---- empty places

abbrev pub nothing : ℕ → List (Option Built)
nothing n = replicate n None

pub nothing_long : (n : ℕ) → length (nothing n) ≡ n
nothing_long n = let none : Option Built = None in length-replicate n none

pub nothing_at : (n k : ℕ) → k < n → slice_get (nothing n) k ≡ Some None
nothing_at zero k l = absurd (omega (arith, l))
nothing_at (suc n) zero l = refl
nothing_at (suc n) (suc k) l = nothing_at n k (omega (arith, l))

pub nothing_costs : (n : ℕ) → cost (nothing n) ≡ 0
nothing_costs zero = refl
nothing_costs (suc n) = nothing_costs n

-- ---- one body more

-- a body in a place that was empty
pub cost_more :
    (places : List (Option Built)) (k : ℕ) (b : Built) → slice_get places k ≡ Some None
    → cost (set places k (Some b)) ≡ cost places + (1 + b.inlined)
cost_more [] k b e = absurd cc
cost_more (None ∷ places) zero b e = omega arith
cost_more (Some a ∷ places) zero b e = absurd cc
cost_more (None ∷ places) (suc k) b e = cost_more places k b e
cost_more (Some a ∷ places) (suc k) b e = let h = cost_more places k b e in omega arith

-- ---- all bodies

-- in this place is a body with as many inlined sites as g says of its function
abbrev IsAt : (Function → ℕ) → List (Option Built) → Module → ℕ → Type 0
IsAt g places m k =
    (b : Built) × (f : Function) × (slice_get places k ≡ Some (Some b)) × (slice_get m k ≡ Some f) × (b.inlined ≡ g f)

cost_by :
    (g : Function → ℕ) (places : List (Option Built)) (m : Module) → length places ≡ length m
    → ((k : ℕ) → k < length m → IsAt g places m k) → cost places ≡ length m + sum (map g m)
cost_by g [] [] e each = refl
cost_by g [] (f ∷ m) e each = absurd (omega (arith, e))
cost_by g (o ∷ places) [] e each = absurd (omega (arith, e))
cost_by g (None ∷ places) (f ∷ m) e each = absurd (let r = each 0 (omega arith) in let h = r.2 in cc)
cost_by g (Some a ∷ places) (f ∷ m) e each =
    let r = each 0 (omega arith) in
    let here : a.inlined ≡ g f = let h = r.2 in let i = r.3 in let j = r.4 in cc in
    let h = cost_by g places m (omega (arith, e)) (λ k l. each (suc k) (omega (arith, l))) in
    let s = sum_by-cons (λ (z : ℕ). z) (g f) (map g m) in omega arith

-- where each place has its function's body
pub cost_all :
    (p : Policy) (m : Module) (places : List (Option Built)) → AreBuilt p m places → AllFilled places
    → cost places ≡ length m + all_inlined (policy_of p) m
cost_all p m places are all = cost_by (inlined (policy_of p) m) places m are.long (λ k l.
    let r = all k (let e = are.long in omega (arith, l)) in let s = some_at m k l in
    (r.0, s.0, r.1, s.1, (is_of p m k s.0 r.0 s.1 (are.each k r.0 r.1)).1))
