-- A module is accepted where each function keeps its own rules and all callee declarations state the signatures of the
-- functions that they name. Of the latter the heads tell.
use Rattle.std.proofs.Common.{◌≡◌, ℕ, suc, Bool, true, false, List, [], ◌∷◌, Option, None, Some, map, length, slice_get, arith, inl, inr, refl, sym, ap, subst, ◌∙◌}
use Rattle.std.specs.Prelude.{if◌then◌else◌, IfSome}
use Rattle.std.specs.Option.{is_some}
use Rattle.std.proofs.lemmas.Option.{slice_get_within}
use Rattle.ir_core.specs.declared.declarations.Callee.{Callee}
use Rattle.ir_core.specs.declared.names.FuncName.{FuncName}
use Rattle.ir_core.specs.declared.places.Item.TheVariants as item
use Rattle.ir_core.specs.Edits.{head_of}
use Rattle.ir_core.specs.Lists.{In, Each}
use Rattle.ir_core.specs.Lookup.{find_function, same_name}
use Rattle.ir_core.specs.Module.{Function, Module}
use Rattle.ir_core.specs.WellFormed.{DifferentNames}
use Rattle.ir_core.proofs.Gets.{each_at, some_same}
use Rattle.ir_semantics.specs.Accepted.{no_terminator, entry_target, count_mismatch, type_mismatch, convention}
use Rattle.ir_semantics.specs.Accepted.{signature_mismatch, slot_range, tag_place, not_available, RulesHold, Accepted}
use Rattle.ir_semantics.specs.CallRules.{Declared}
use Rattle.range_workers.specs.Follow.{Follow}
use Rattle.clif_check.specs.Declarations.{KeepsOwnRules, DeclareWithin, DeclaresAt}

-- ---- one function

rules_of_both : (m : Module) (f : Function) → KeepsOwnRules f → Each (Declared m f) f.callees → RulesHold m f
rules_of_both m f own declared item.Whole rule = tt
rules_of_both m f own declared (item.Block b) rule = own (item.Block b) rule
rules_of_both m f own declared (item.Inst at) rule = own (item.Inst at) rule
rules_of_both m f own declared (item.Callee k) signature_mismatch = λ c e. each_at (Declared m f) f.callees k c declared e
rules_of_both m f own declared (item.Callee k) no_terminator = λ c e. tt
rules_of_both m f own declared (item.Callee k) entry_target = λ c e. tt
rules_of_both m f own declared (item.Callee k) count_mismatch = λ c e. tt
rules_of_both m f own declared (item.Callee k) type_mismatch = λ c e. tt
rules_of_both m f own declared (item.Callee k) convention = λ c e. tt
rules_of_both m f own declared (item.Callee k) slot_range = λ c e. tt
rules_of_both m f own declared (item.Callee k) tag_place = λ c e. tt
rules_of_both m f own declared (item.Callee k) not_available = λ c e. tt

-- ---- names and heads

-- a function is found where its head is
head_found : (n : FuncName) (m : Module) (h : Function) → find_function n m ≡ Some h → find_function n (map head_of m) ≡ Some (head_of h)
head_found n [] h e = absurd cc
head_found n (f ∷ m) h e = by (same_name f.name n) e (head_found n m h)
  where
    by : (b : Bool) → (if b then Some f else find_function n m) ≡ Some h → (find_function n m ≡ Some h → find_function n (map head_of m) ≡ Some (head_of h))
        → (if b then Some (head_of f) else find_function n (map head_of m)) ≡ Some (head_of h)
    by true is later = let same : f ≡ h = cc in ap (λ (g : Function). Some (head_of g)) same
    by false is later = later is

none_found : (n : FuncName) (m : Module) → find_function n (map head_of m) ≡ None → find_function n m ≡ None
none_found n m e = by (find_function n m) refl
  where
    by : (o : Option Function) → find_function n m ≡ o → o ≡ None
    by None is = refl
    by (Some h) is = let there : None ≡ Some (head_of h) = sym e ∙ head_found n m h is in absurd cc

pub heads_differ : (m : Module) → DifferentNames (map head_of m) → DifferentNames m
heads_differ [] d = tt
heads_differ (f ∷ m) d = (none_found f.name m d.0, heads_differ m d.1)

declared_by_heads : (m : Module) (f : Function) (cs : List Callee) → Each (Declared (map head_of m) (head_of f)) cs → Each (Declared m f) cs
declared_by_heads m f [] d = tt
declared_by_heads m f (c ∷ cs) d = (λ h e. d.0 (head_of h) (head_found c.name m h e), declared_by_heads m f cs d.1)

-- a callee declaration states the signature of the one function that it may name
pub declared_by : (m : Module) (f : Function) (c : Callee) (g : Function) → find_function c.name m ≡ Some g → slice_get f.sigs c.sig ≡ Some g.sig → Declared m f c
declared_by m f c g found states h e = states ∙ ap (λ (x : Function). Some x.sig) (some_same (sym found ∙ e))

-- what is declared by the function at a place
pub declares_there : (m : Module) (place : ℕ) (f : Function) → slice_get m place ≡ Some f → Each (Declared m f) f.callees → DeclaresAt m place
declares_there m place f at all g e = subst (λ (h : Function). Each (Declared m h) h.callees) (some_same (sym at ∙ e)) all

-- ---- a module

in_each : (P : Function → Type 0) (m : Module) (f : Function) → Each P m → In f m → P f
in_each P [] f all there = absurd there
in_each P (g ∷ m) f all (inl same) = subst P (sym same) all.0
in_each P (g ∷ m) f all (inr later) = in_each P m f all.1 later

declared_at : (m fs : Module) (f : Function) → Each (λ (h : Function). Each (Declared (map head_of m) h) h.callees) (map head_of fs) → In f fs → Each (Declared m f) f.callees
declared_at m [] f all there = absurd there
declared_at m (g ∷ fs) f all (inl same) = subst (λ (x : Function). Each (Declared m x) x.callees) (sym same) (declared_by_heads m g g.callees all.0)
declared_at m (g ∷ fs) f all (inr later) = declared_at m fs f all.1 later

-- what holds of the function at each place holds of each
each_of : (P : Function → Type 0) (fs : List Function) → ((i : ℕ) (f : Function) → slice_get fs i ≡ Some f → P f) → Each P fs
each_of P [] all = tt
each_of P (f ∷ fs) all = (all 0 f refl, each_of P fs (λ i g e. all (suc i) g e))

-- what is declared within the whole list is declared by each
each_declares : (m : Module) → DeclareWithin m 0 (length m) → Each (λ (f : Function). Each (Declared m f) f.callees) m
each_declares m declared =
    each_of (λ (f : Function). Each (Declared m f) f.callees) m (λ i f e. declared i (omega arith) (slice_get_within m i f e) f e)

pub accepted_by_heads : (m : Module) → Each KeepsOwnRules m → DeclareWithin (map head_of m) 0 (length (map head_of m)) → Accepted m
accepted_by_heads m own declared f there =
    rules_of_both m f (in_each KeepsOwnRules m f own there) (declared_at m m f (each_declares (map head_of m) declared) there)

pub accepted_by_functions : (m : Module) → Each KeepsOwnRules m → DeclareWithin m 0 (length m) → Accepted m
accepted_by_functions m own declared f there =
    rules_of_both m f (in_each KeepsOwnRules m f own there)
    (in_each (λ (g : Function). Each (Declared m g) g.callees) m f (each_declares m declared) there)

-- what workers find where they find something
pub all_declare : {A T : Type 0} (found : Option A) (items : A → List T) (m : Module) (count : ℕ) → count ≡ length m → IfSome found (λ x. Follow (λ from to _. DeclareWithin m from to) 0 count (items x)) → is_some found ≡ true → DeclareWithin m 0 (length m)
all_declare None items m count whole stand seen = absurd cc
all_declare (Some x) items m count whole stand seen = subst (DeclareWithin m 0) whole (stand 0 [] (λ i low high. absurd (omega (arith, low, high))))
