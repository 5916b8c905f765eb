-- Bodies in the order of their functions: one more of them, and all.
use Rattle.std.proofs.Common.{◌≡◌, ℕ, zero, suc, ◌+◌, ◌≤◌, List, [], ◌∷◌, ◌++◌, length, map, sum, take, Some, refl, sym, ap, ap₂, ◌∙◌, subst, arith}
use Rattle.std.specs.Prelude.{slice_get}
use Rattle.std.specs.Arc.{arc_value}
use Rattle.std.specs.declared.sync.Arc.{Arc}
use Rattle.std.specs.declared.alloc.Global.{Global}
use Rattle.std.proofs.lemmas.List.{take_all}
use Rattle.std.proofs.lemmas.List.Sums.{sum_by-append}
use mathlib.Core.List.{map-append}
use Rattle.ir_core.specs.Edits.{Body}
use Rattle.ir_core.specs.Lists.{Each}
use Rattle.ir_core.specs.Module.{Function, Module}
use Rattle.ir_core.specs.Sound.{IsSound, IsWhole}
use Rattle.ir_core.specs.WellFormed.{WellFormed}
use Rattle.ir_semantics.specs.Canon.{SameUpToNumbering}
use Rattle.inline_pass.specs.Finished.{finished}
use Rattle.inline_pass.specs.Inlined.{inlined}
use Rattle.inline_pass.proofs.Gathering.{map_next, same_next, whole_of}
use Rattle.inline_finish.specs.declared.bodies.Built.{Built}
use Rattle.inline_finish.specs.declared.bodies.Policy.{Policy}
use Rattle.inline_finish.specs.Building.{policy_of, IsBuilt}
use Rattle.worker_driver.specs.Gathered.{function_in, functions_in, inlined_in, AreGathered}

module _ {A B : Type 0} where
  -- what is made of one more item
  pub map_with : (g : A → B) (xs : List A) (a : A) (ys : List B) (b : B) → ys ≡ map g xs → b ≡ g a → ys ++ b ∷ [] ≡ map g (xs ++ a ∷ [])
  map_with g xs a ys b e h = ap₂ (λ (l : List B) (z : B). l ++ z ∷ []) e h ∙ sym (map-append g xs (a ∷ []))

-- ---- bodies of the first functions

module _ (p : Policy) (m : Module) (i : ℕ) (f : Function) (at : slice_get m i ≡ Some f) (bodies : List (Arc Built Global)) (a : Arc Built Global)
    (is : IsBuilt (policy_of p) m f (arc_value a)) where
  pub same_with : SameUpToNumbering (map (finished (policy_of p) m) (take i m)) (functions_in bodies)
      → SameUpToNumbering (map (finished (policy_of p) m) (take (i + 1) m)) (functions_in (bodies ++ a ∷ []))
  same_with same = subst (SameUpToNumbering (map (finished (policy_of p) m) (take (i + 1) m))) (sym (map-append function_in bodies (a ∷ [])))
      (same_next (finished (policy_of p) m) m (functions_in bodies) i (i + 1) f (function_in a) at refl same is.0)

  pub counted_with : map inlined_in bodies ≡ map (inlined (policy_of p) m) (take i m)
      → map inlined_in (bodies ++ a ∷ []) ≡ map (inlined (policy_of p) m) (take (i + 1) m)
  counted_with counted =
      map-append inlined_in bodies (a ∷ [])
      ∙ (ap₂ (λ (l : List ℕ) (n : ℕ). l ++ n ∷ []) counted is.1 ∙ sym (map_next (inlined (policy_of p) m) m i f at))

pub all_gathered : (p : Policy) (m : Module) (i : ℕ) (bodies : List (Arc Built Global)) → length m ≤ i
    → SameUpToNumbering (map (finished (policy_of p) m) (take i m)) (functions_in bodies)
    → map inlined_in bodies ≡ map (inlined (policy_of p) m) (take i m) → AreGathered p m bodies
all_gathered p m i bodies l same counted = let all : take i m ≡ m = take_all i m l in record {
  same = subst (λ (fs : Module). SameUpToNumbering (map (finished (policy_of p) m) fs) (functions_in bodies)) all same;
  counted = counted ∙ ap (map (inlined (policy_of p) m)) all;
}

-- ---- the functions of bodies

pub function_at : (bodies : List (Arc Built Global)) (i : ℕ) (a : Arc Built Global) → slice_get bodies i ≡ Some a → slice_get (functions_in bodies) i ≡ Some (function_in a)
function_at [] i a e = absurd cc
function_at (b ∷ bs) zero a e = let q : b ≡ a = cc in ap (λ (z : Arc Built Global). Some (function_in z)) q
function_at (b ∷ bs) (suc i) a e = function_at bs i a e

abbrev pub of_funcs : List Body → List Function
of_funcs funcs = map (λ func. func.function) funcs

pub functions_with : (funcs : List Body) (func : Body) (bodies : List (Arc Built Global)) (a : Arc Built Global)
    → of_funcs funcs ≡ functions_in bodies → func.function ≡ function_in a → of_funcs (funcs ++ func ∷ []) ≡ functions_in (bodies ++ a ∷ [])
functions_with funcs func bodies a e h =
    map-append (λ (b : Body). b.function) funcs (func ∷ []) ∙ map_with function_in bodies a (of_funcs funcs) func.function e h

pub sound_with : (funcs : List Body) (func : Body) → Each IsSound (of_funcs funcs) → IsSound func.function → Each IsSound (of_funcs (funcs ++ func ∷ []))
sound_with [] func h s = (s, tt)
sound_with (f ∷ fs) func h s = (h.0, sound_with fs func h.1 s)

pub all_whole : (funcs : List Body) → Each IsSound (of_funcs funcs) → Each WellFormed (of_funcs funcs) → Each (λ func. IsWhole func.function) funcs
all_whole [] s w = tt
all_whole (f ∷ fs) s w = (whole_of f.function s.0 w.0, all_whole fs s.1 w.1)

zero_add : (n : ℕ) → 0 + n ≡ n
zero_add n = omega arith

pub sum_with : (bodies : List (Arc Built Global)) (a : Arc Built Global) → sum (map inlined_in (bodies ++ a ∷ [])) ≡ sum (map inlined_in bodies) + inlined_in a
sum_with bodies a =
    ap sum (map-append inlined_in bodies (a ∷ []))
    ∙ (sum_by-append (λ (z : ℕ). z) (map inlined_in bodies) (inlined_in a ∷ []) ∙ ap (λ (z : ℕ). sum (map inlined_in bodies) + z) (zero_add (inlined_in a)))
