-- The module of finished bodies grows by the body that is taken out of its place.
use Rattle.std.proofs.Common.{◌≡◌, ℕ, ◌+◌, ◌<◌, List, [], ◌∷◌, ◌++◌, length, map, sum, take}
use Rattle.std.proofs.Common.{Option, Some, None, refl, sym, ap, ◌∙◌, subst, arith}
use Rattle.std.specs.Prelude.{slice_get, slice_index_or}
use Rattle.std.proofs.lemmas.Option.{slice_get_within, slice_get_read}
use Rattle.ir_core.specs.Module.{Function, Module}
use Rattle.ir_core.specs.Lookup.{find_function}
use Rattle.ir_core.specs.Sound.{IsSound, IsWhole}
use Rattle.ir_core.specs.WellFormed.{DifferentNames}
use Rattle.ir_semantics.specs.Canon.{SameFunction, SameUpToNumbering}
use Rattle.call_graph.proofs.Numbers.{some_at}
use Rattle.inline_pass.specs.Finished.{finished}
use Rattle.inline_pass.specs.Inlined.{inlined}
use Rattle.inline_pass.proofs.Gathering.{map_next, sum_next, same_next, new_name, whole_of}
use Rattle.inline_finish.specs.declared.bodies.Built.{Built}
use Rattle.inline_finish.specs.declared.bodies.Policy as code
use Rattle.inline_finish.specs.Building.{policy_of, IsBuilt}
use Rattle.module_pass.specs.Places.{AreBuilt}
use Rattle.module_pass.proofs.Filled.{is_of}

-- ---- the body that is taken out of a place

-- the places were built, and the one that was read stood as then
pub body_in :
    (places built : List (Option Built)) (i : ℕ) (now : Option Built) → i < length places
    → now ≡ slice_index_or places i now → slice_get places i ≡ slice_get built i → slice_get built i ≡ Some now
body_in places built i now low e same = sym same ∙ slice_get_read places (length places) i now refl low e

module _
    (p : code.Policy) (m : Module) (built : List (Option Built)) (are : AreBuilt p m built) (i : ℕ) (b : Built)
    (at : slice_get built i ≡ Some (Some b)) where
  function_at : (f : Function) × (slice_get m i ≡ Some f) × IsBuilt (policy_of p) m f b
  function_at =
      let low : i < length m = let l = slice_get_within built i (Some b) at in let s = are.long in omega arith in
      let s = some_at m i low in (s.0, s.1, is_of p m i s.0 b s.1 (are.each i b at))

  pub inlined_with_it :
      sum (map (inlined (policy_of p) m) (take (i + 1) m))
      ≡ sum (map (inlined (policy_of p) m) (take i m)) + b.inlined
  inlined_with_it =
      let f = function_at in
      sum_next (inlined (policy_of p) m) m i (i + 1) f.0 f.1 refl
      ∙ ap (λ (z : ℕ). sum (map (inlined (policy_of p) m) (take i m)) + z) (sym f.2.1)

  pub by_function_with_it :
      map (inlined (policy_of p) m) (take (i + 1) m) ≡ map (inlined (policy_of p) m) (take i m) ++ b.inlined ∷ []
  by_function_with_it =
      let f = function_at in
      map_next (inlined (policy_of p) m) m i f.0 f.1
      ∙ ap (λ (n : ℕ). map (inlined (policy_of p) m) (take i m) ++ n ∷ []) (sym f.2.1)

  module _ (h : Function) (is : h ≡ b.func.function) where
    finished_at : SameFunction (finished (policy_of p) m function_at.0) h
    finished_at = subst (SameFunction (finished (policy_of p) m function_at.0)) (sym is) function_at.2.0

    pub whole_at : IsSound h → IsWhole h
    whole_at s = whole_of h s finished_at.1

    module _ (r : Module) (made : SameUpToNumbering (map (finished (policy_of p) m) (take i m)) r) where
      pub new_at : DifferentNames m → find_function h.name r ≡ None
      new_at d = new_name (policy_of p) m d i function_at.0 h function_at.1 finished_at r made

      pub made_with_it : SameUpToNumbering (map (finished (policy_of p) m) (take (i + 1) m)) (r ++ h ∷ [])
      made_with_it =
          same_next (finished (policy_of p) m) m r i (i + 1) function_at.0 h function_at.1 refl made finished_at
