-- Which functions callee declarations name, and their finished bodies.
use Rattle.std.proofs.Common.{◌≡◌, ℕ, ◌<◌, List, length, Option, Some, None, Bool, true, false, get_or, map, refl, sym, ap, ◌∙◌, subst}
use Rattle.std.specs.Prelude.{slice_get, if◌then◌else◌}
use Rattle.std.proofs.lemmas.Option.{get_or_from_slice_get}
use Rattle.ir_core.specs.declared.names.FuncName.{FuncName}
use Rattle.ir_core.specs.declared.declarations.Callee.{Callee}
use Rattle.ir_core.specs.Lists.{In}
use Rattle.ir_core.specs.Lookup.{and_then, same_name, find_function}
use Rattle.ir_core.specs.Module.{Line, Function, Module}
use Rattle.ir_core.specs.Uses.{callee_of}
use Rattle.ir_core.specs.WellFormed.{DifferentNames}
use Rattle.ir_core.proofs.Equal.{name_equal}
use Rattle.ir_core.proofs.Indexing.{place_cases}
use Rattle.ir_core.proofs.Gets.{get_mapped}
use Rattle.inline_outcomes.proofs.Functions.{function_name}
use Rattle.inline_acceptance.proofs.KeptLists.{map_get}
use Rattle.call_graph.specs.Calls.{number_of}
use Rattle.call_graph.specs.Reach.{apart}
use Rattle.call_graph.specs.Order.{names_of, piece_number}
use Rattle.call_graph.proofs.Numbers.{some_at, number_is}
use Rattle.call_graph.proofs.PieceNumbers.{apart_by_numbers}
use Rattle.inline_pass.specs.Policy.{Policy}
use Rattle.inline_pass.specs.Finished.{finished, finished_body}
use Rattle.call_graph.specs.Marks.{target_by}
use Rattle.call_graph.proofs.Bridging.{name_in}
use Rattle.ir_semantics.proofs.SafetyTypes.{then_some}
use Rattle.inline_finish.specs.Targets.{target_of, targets_in}

abbrev by_piece : (A : Type 0) → Bool → Option A → Option A
by_piece A b o = if b then o else None

-- ---- the target of a name

pub no_target : (m : Module) (x y : FuncName) → None ≡ number_of m y → None ≡ target_of m x y
no_target m x y h = go (apart m x y)
  where
    go : (b : Bool) → None ≡ by_piece ℕ b (number_of m y)
    go true = h
    go false = refl

pub own_piece : (m : Module) (j k : ℕ) (f g : Function) (y : FuncName) → slice_get m j ≡ Some f → slice_get m k ≡ Some g → g.name ≡ y → piece_number m g.name ≡ piece_number m f.name → None ≡ target_of m f.name y
own_piece m j k f g y at there is same = go (apart m f.name y) refl
  where
    go : (b : Bool) → apart m f.name y ≡ b → None ≡ by_piece ℕ b (number_of m y)
    go true e = absurd ((apart_by_numbers m f.name y (name_in m j f at) (subst (λ z. In z (names_of m)) is (name_in m k g there))).0 e (sym same ∙ ap (piece_number m) is))
    go false e = refl

pub other_piece : (m : Module) (j k : ℕ) (f g : Function) (y : FuncName) → slice_get m j ≡ Some f → slice_get m k ≡ Some g → g.name ≡ y → (piece_number m g.name ≡ piece_number m f.name → ⊥) → Some k ≡ number_of m y → Some k ≡ target_of m f.name y
other_piece m j k f g y at there is off number =
    let other : apart m f.name y ≡ true = (apart_by_numbers m f.name y (name_in m j f at) (subst (λ z. In z (names_of m)) is (name_in m k g there))).1 (λ e. off (ap (piece_number m) is ∙ sym e)) in
    number ∙ ap (λ b. by_piece ℕ b (number_of m y)) (sym other)

pub number_at : (m : Module) (ns : List ℕ) (k : ℕ) (g : Function) → ns ≡ map (λ f. piece_number m f.name) m → slice_get m k ≡ Some g → get_or ns k 0 ≡ piece_number m g.name
number_at m ns k g e h = get_or_from_slice_get ns k (piece_number m g.name) 0 (ap (λ xs. slice_get xs k) e ∙ get_mapped (λ (f : Function). piece_number m f.name) m k g h)

found_there : (m : Module) (y : FuncName) (k : ℕ) → k < length m → find_function y m ≡ slice_get m k → (g : Function) × (slice_get m k ≡ Some g) × (g.name ≡ y)
found_there m y k l e = let s = some_at m k l in (s.0, s.1, function_name y m s.0 (e ∙ s.1))

pub found_own : (m : Module) (piece : List ℕ) (j k : ℕ) (f : Function) (y : FuncName) → slice_get m j ≡ Some f → piece ≡ map (λ f. piece_number m f.name) m → k < length m → find_function y m ≡ slice_get m k → get_or piece k 0 ≡ get_or piece j 0 → None ≡ target_of m f.name y
found_own m piece j k f y at pieces l e same =
    let g = found_there m y k l e in
    own_piece m j k f g.0 y at g.1 g.2 (sym (number_at m piece k g.0 pieces g.1) ∙ (same ∙ number_at m piece j f pieces at))

pub found_other : (m : Module) (piece : List ℕ) (j k : ℕ) (f : Function) (y : FuncName) → slice_get m j ≡ Some f → piece ≡ map (λ f. piece_number m f.name) m → k < length m → find_function y m ≡ slice_get m k → (get_or piece k 0 ≡ get_or piece j 0 → ⊥) → Some k ≡ number_of m y → Some k ≡ target_of m f.name y
found_other m piece j k f y at pieces l e off number =
    let g = found_there m y k l e in
    other_piece m j k f g.0 y at g.1 g.2 (λ q. off (number_at m piece k g.0 pieces g.1 ∙ (q ∙ sym (number_at m piece j f pieces at)))) number

-- ---- the number of a name that a given function has

pub named_number : (m : Module) (k : ℕ) (f : Function) (y : FuncName) → DifferentNames m → slice_get m k ≡ Some f → true ≡ same_name f.name y → Some k ≡ number_of m y
named_number m k f y different at same = sym (number_is m different k f at) ∙ ap (number_of m) (name_equal f.name y (sym same))

-- ---- the body that a name has

-- in another piece, and what its number is
pub target_apart : (m : Module) (x y : FuncName) (k : ℕ) → target_of m x y ≡ Some k → (apart m x y ≡ true) × (number_of m y ≡ Some k)
target_apart m x y k h = go (apart m x y) refl h
  where
    go : (b : Bool) → apart m x y ≡ b → by_piece ℕ b (number_of m y) ≡ Some k → (apart m x y ≡ true) × (number_of m y ≡ Some k)
    go true e q = (e, q)
    go false e q = absurd cc

pub number_finds : (m : Module) (y : FuncName) (k : ℕ) → number_of m y ≡ Some k → find_function y m ≡ slice_get m k
number_finds m y k h = (place_cases y m (Some k) (sym h)).1

pub number_none : (m : Module) (y : FuncName) → number_of m y ≡ None → find_function y m ≡ None
number_none m y h = place_cases y m None (sym h)

pub body_found : (p : Policy) (m : Module) (x y : FuncName) (k : ℕ) (g : Function) → target_of m x y ≡ Some k → slice_get m k ≡ Some g → finished_body p m x y ≡ Some (finished p m g)
body_found p m x y k g h at =
    let t = target_apart m x y k h in
    ap (λ b. and_then (by_piece Function b (find_function y m)) (λ (g : Function). Some (finished p m g))) t.0 ∙ ap (λ o. and_then o (λ (g : Function). Some (finished p m g))) (number_finds m y k t.1 ∙ at)

pub no_body : (p : Policy) (m : Module) (x y : FuncName) → target_of m x y ≡ None → finished_body p m x y ≡ None
no_body p m x y h = go (apart m x y) h
  where
    go : (b : Bool) → by_piece ℕ b (number_of m y) ≡ None → and_then (by_piece Function b (find_function y m)) (λ (g : Function). Some (finished p m g)) ≡ None
    go true q = ap (λ o. and_then o (λ (g : Function). Some (finished p m g))) (number_none m y q)
    go false q = refl

-- ---- what a line calls

target_named : (m : Module) (f : Function) (l : Line) (j : ℕ) (d : Callee) → callee_of l.inst ≡ Some j → slice_get f.callees j ≡ Some d → target_by (targets_in m f) l ≡ target_of m f.name d.name
target_named m f l j d is has =
    ap (λ o. and_then o (λ k. and_then (slice_get (targets_in m f) k) (λ target. target))) is
    ∙ ap (λ o. and_then o (λ target. target)) (get_mapped (λ (c : Callee). target_of m f.name c.name) f.callees j d has)

pub record Named (m : Module) (f : Function) (l : Line) (k : ℕ) : Type 0 where
  pub index : ℕ
  pub callee : Callee
  pub is : callee_of l.inst ≡ Some index
  pub has : slice_get f.callees index ≡ Some callee
  pub target : target_of m f.name callee.name ≡ Some k

pub named : (m : Module) (f : Function) (l : Line) (k : ℕ) → target_by (targets_in m f) l ≡ Some k → Named m f l k
named m f l k h =
    let a = then_some (callee_of l.inst) (λ j. and_then (slice_get (targets_in m f) j) (λ target. target)) k h in
    let b = then_some (slice_get (targets_in m f) a.0) (λ target. target) k a.2 in
    let c = map_get (λ (c : Callee). target_of m f.name c.name) f.callees a.0 b.0 b.1 in
    record { index = a.0; callee = c.0; is = a.1; has = c.1; target = sym c.2 ∙ b.2 }

pub not_named : (m : Module) (f : Function) (l : Line) (j : ℕ) (d : Callee) → target_by (targets_in m f) l ≡ None → callee_of l.inst ≡ Some j → slice_get f.callees j ≡ Some d → target_of m f.name d.name ≡ None
not_named m f l j d h is has = sym (target_named m f l j d is has) ∙ h
