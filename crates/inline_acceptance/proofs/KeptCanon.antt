-- Modules that are the same up to numbering: one is accepted where the other is.
use Rattle.std.proofs.Common.{◌≡◌, ℕ, zero, suc, ◌≤◌, inl, inr, ◌⊎◌, List, [], ◌∷◌, Option, Some, None, refl, sym, ap, ◌∙◌, subst, arith}
use Rattle.ir_core.specs.declared.names.FuncName.{FuncName}
use Rattle.ir_core.specs.declared.signatures.Ty.{Ty}
use Rattle.ir_core.specs.Module.{Function, Module}
use Rattle.ir_core.specs.Lookup.{find_function, type_of, definitions, block_numbers, number_in}
use Rattle.ir_core.specs.Lists.{In, Each, Different}
use Rattle.ir_semantics.specs.Accepted.{RulesHold, Accepted}
use Rattle.ir_semantics.specs.Canon.{canonical_names, canonical, canonical_module}
use Rattle.ir_core.specs.WellFormed.{WellFormed, DifferentNames}
use Rattle.ir_core.proofs.Gets.{some_same}
use Rattle.ir_core.proofs.Members.{each_in, in_map, map_in}
use Rattle.inline_acceptance.specs.Laws.{NumberingAccepted}
use Rattle.inline_outcomes.proofs.Numbering.{place_hit, place_skip, place_injective, Under, back, back_is, back_place, above, under_above, name_kept, function_map, function_none, back_names, back_is_injective, back_value, back_rest, canonical_back}
use Rattle.inline_acceptance.proofs.KeptNumbers.{renumbered_accepted, order_from, undefined, canonical_typed}

-- ---- numbers changed back

-- a number below is the number_in of the number that it stands for
place_back : (xs : List ℕ) (base u : ℕ) → Different xs → Under base xs → In (back xs base u) xs → number_in xs (back xs base u) ≡ u
unfolding back
place_back [] base u d n p = elim p [ ]
place_back (x ∷ xs) base zero d n p = place_hit x xs x refl
place_back (x ∷ xs) base (suc u) d n p =
    let other : back xs base u ≡ x → ⊥ = λ q. elim (back_is xs base u) [ inl z ↦ d.0 (subst (λ y. In y xs) q z) | inr z ↦ absurd (omega (arith, n.0, q, z)) ] in
    place_skip x xs (back xs base u) other ∙ ap suc (place_back xs base u d.1 n.1 (elim p [ inl q ↦ absurd (other q) | inr q ↦ q ]))

not_above : (xs : List ℕ) (base v : ℕ) → Under base xs → In v xs → base ≤ v → ⊥
not_above [] base v n p h = elim p [ ]
not_above (x ∷ xs) base v n (inl p) h = absurd (let z = n.0 in omega (arith, z, p, h))
not_above (x ∷ xs) base v n (inr p) h = not_above xs base v n.1 p h

pub back_typed : (f : Function) → WellFormed f → (u : ℕ) → type_of f ((back_names f).value u) ≡ type_of (canonical f) u
back_typed f w u = ap (type_of f) (back_value f u) ∙ by (back_is (definitions f.blocks) (above (definitions f.blocks)) u)
  where
    by : In (back (definitions f.blocks) (above (definitions f.blocks)) u) (definitions f.blocks) ⊎ (above (definitions f.blocks) ≤ back (definitions f.blocks) (above (definitions f.blocks)) u) → type_of f (back (definitions f.blocks) (above (definitions f.blocks)) u) ≡ type_of (canonical f) u
    by (inl p) =
        let v = back (definitions f.blocks) (above (definitions f.blocks)) u in
        sym (canonical_typed f w v) ∙ ap (type_of (canonical f)) (place_back (definitions f.blocks) (above (definitions f.blocks)) u w.defined_once (under_above (definitions f.blocks)) p)
    by (inr p) = undefined f w (back (definitions f.blocks) (above (definitions f.blocks)) u) (λ q. not_above (definitions f.blocks) (above (definitions f.blocks)) (back (definitions f.blocks) (above (definitions f.blocks)) u) (under_above (definitions f.blocks)) q p) ∙ sym (none (type_of (canonical f) u) refl)
      where
        none : (o : Option Ty) → type_of (canonical f) u ≡ o → type_of (canonical f) u ≡ None
        none None q = q
        none (Some t) q =
            let x = order_from (number_in (definitions f.blocks)) f.types (definitions f.blocks) u t q in
            let e : back (definitions f.blocks) (above (definitions f.blocks)) u ≡ x.0 = ap (back (definitions f.blocks) (above (definitions f.blocks))) x.2 ∙ back_place (definitions f.blocks) (above (definitions f.blocks)) x.0 x.1 in
            absurd (not_above (definitions f.blocks) (above (definitions f.blocks)) (back (definitions f.blocks) (above (definitions f.blocks)) u) (under_above (definitions f.blocks)) (subst (λ z. In z (definitions f.blocks)) (sym e) x.1) p)

-- ---- a module and its canonical form

declares_to : (m : Module) (name : FuncName) (h' : Function) → find_function name (canonical_module m) ≡ Some h' → (h : Function) × (find_function name m ≡ Some h) × (h.sig ≡ h'.sig)
declares_to m name h' q = by (find_function name m) refl
  where
    by : (o : Option Function) → find_function name m ≡ o → (h : Function) × (find_function name m ≡ Some h) × (h.sig ≡ h'.sig)
    by None e = let z : None ≡ Some h' = sym (function_none canonical name_kept name m e) ∙ q in cc
    by (Some h) e = let z : canonical h ≡ h' = some_same (sym (function_map canonical name_kept name m h e) ∙ q) in (h, e, ap (λ y. y.sig) z)

declares_back : (m : Module) (name : FuncName) (h' : Function) → find_function name m ≡ Some h' → (h : Function) × (find_function name (canonical_module m) ≡ Some h) × (h.sig ≡ h'.sig)
declares_back m name h' q = (canonical h', function_map canonical name_kept name m h' q, refl)

to_canonical : (m : Module) → Each WellFormed m → Accepted m → Accepted (canonical_module m)
to_canonical m whole ok h p =
    let u = map_in canonical h m p in
    let f = u.0 in
    subst (RulesHold (canonical_module m)) (sym u.2) (renumbered_accepted m (canonical_module m) (declares_to m) f (canonical f) (canonical_names f) (place_injective (definitions f.blocks)) (place_injective (block_numbers f.blocks)) (λ k. (refl, refl, refl)) (record { sig = refl; slots = refl; sigs = refl; callees = refl; blocks = refl }) (canonical_typed f (each_in WellFormed m whole f u.1)) (ok f u.1))

from_canonical : (m : Module) → Each WellFormed m → Accepted (canonical_module m) → Accepted m
from_canonical m whole ok f p =
    let w = each_in WellFormed m whole f p in
    let inj = back_is_injective f w in
    renumbered_accepted (canonical_module m) m (declares_back m) (canonical f) f (back_names f) inj.0 inj.1 (back_rest f) (record { sig = refl; slots = refl; sigs = refl; callees = refl; blocks = sym (canonical_back f w) }) (back_typed f w) (ok (canonical f) (in_map canonical f m p))

names_to : (m : Module) → DifferentNames m → DifferentNames (canonical_module m)
names_to [] d = tt
names_to (f ∷ fs) d = (function_none canonical name_kept f.name fs d.0, names_to fs d.1)

names_from : (m : Module) → DifferentNames (canonical_module m) → DifferentNames m
names_from [] d = tt
names_from (f ∷ fs) d = (by (find_function f.name fs) refl, names_from fs d.1)
  where
    by : (o : Option Function) → find_function f.name fs ≡ o → find_function f.name fs ≡ None
    by None q = q
    by (Some h) q = let z : None ≡ Some (canonical h) = sym d.0 ∙ function_map canonical name_kept f.name fs h q in cc

pub numbering_accepted : NumberingAccepted
numbering_accepted m r (whole_m, whole_r, same) is ok =
    (record { names = names_from r (subst DifferentNames same (names_to m is.names)); whole = whole_r }, from_canonical r whole_r (subst Accepted same (to_canonical m whole_m ok)))
