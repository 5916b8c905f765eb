-- What a caller is after a plan was appended to it.
use Rattle.std.proofs.Common.{◌≡◌, ℕ, ◌+◌, ◌<◌, List, [], ◌∷◌, ◌++◌, map, length, take, get_or, Some, sym, ap, ◌∙◌, arith}
use Rattle.std.specs.Prelude.{slice_get}
use Rattle.std.specs.List.{enumerate_from}
use Rattle.std.proofs.lemmas.List.{take_more, length-map}
use Rattle.std.proofs.lemmas.Option.{get_or_from_slice_get}
use Rattle.ir_core.specs.declared.signatures.Ty.{Ty}
use Rattle.ir_core.specs.declared.signatures.Sig.{Sig}
use Rattle.ir_core.specs.declared.declarations.SlotDecl.{SlotDecl}
use Rattle.ir_core.specs.declared.declarations.Callee.{Callee}
use Rattle.ir_core.specs.Module.{Function}
use Rattle.ir_core.specs.Lookup.{type_in, type_of}
use Rattle.ir_core.specs.Sound.{IsSound}
use Rattle.ir_core.proofs.Walking.{type_found}
use Rattle.ir_semantics.specs.Import.{sigs_after, sig_after, callees_after, callee_after}
use Rattle.body_import.specs.declared.declarations.Import.{Import}
use Rattle.body_import.specs.declared.importing.Maps.{Maps}
use Rattle.body_import.specs.Imports.{sig_count, callee_count}
use Rattle.body_import.specs.Importing.{importing, AreMapsOf, IsPlanOf}

-- the type of the next value
pub next_type : (f : Function) (v : ℕ) (t : Ty) → IsSound f → v < length f.types → type_of f v ≡ Some t → take (v + 1) (map (λ x. x.1) f.types) ≡ take v (map (λ x. x.1) f.types) ++ (t ∷ [])
next_type f v t sound below e =
    let ts = map (λ (x : ℕ × Ty). x.1) f.types in
    let at : slice_get ts v ≡ Some t = sym (type_found 0 v v ts (omega arith)) ∙ (ap (λ (z : List (ℕ × Ty)). type_in z v) (sym sound.numbered) ∙ e) in
    let n = length-map f.types (λ (x : ℕ × Ty). x.1) in
    let l : v < length ts = omega (arith, n, below) in
    take_more ts v t l ∙ ap (λ z. take v ts ++ (z ∷ [])) (get_or_from_slice_get ts v t t at)

-- f with these signatures and callee declarations, and with slots and values behind its own
abbrev pub with_all : Function → List SlotDecl → List Sig → List Callee → List Ty → Function
with_all f slots sigs callees values =
    record f {
      slots = f.slots ++ slots;
      sigs = sigs;
      callees = callees;
      types = f.types ++ enumerate_from (length f.types) values;
    }

module _ (f g : Function) (plan : Import) (slots : List SlotDecl) (values : List Ty) (is : IsPlanOf f g plan slots values) where
  pub appended : with_all f slots (f.sigs ++ plan.sigs.added) (f.callees ++ plan.callees.added) values ≡ importing f g
  appended =
      ap (λ z. with_all f z (f.sigs ++ plan.sigs.added) (f.callees ++ plan.callees.added) values) is.slots
      ∙ (ap (λ z. with_all f g.slots z (f.callees ++ plan.callees.added) values) (sym is.planned.sigs)
      ∙ (ap (λ z. with_all f g.slots (sigs_after f g) z values) (sym is.planned.callees)
      ∙ ap (λ z. with_all f g.slots (sigs_after f g) (callees_after f g) z) is.values))

  at_place : (table : List ℕ) (k n d after : ℕ) → after ≡ get_or table k d → slice_get table k ≡ Some n → n ≡ after
  at_place table k n d after e at = sym (e ∙ get_or_from_slice_get table k n d at)

  pub maps_are : (m : Maps) → m.slot_base ≡ length f.slots → m.value_base ≡ length f.types → m.sigs ≡ plan.sigs.table → m.callees ≡ plan.callees.table → AreMapsOf f g m
  maps_are m slots_at values_at sigs_are callees_are =
      record {
        slot_base = slots_at;
        value_base = values_at;
        sig_count = ap length sigs_are ∙ is.planned.sig_table;
        sigs = λ k n at. at_place plan.sigs.table k n (sig_count f plan) (sig_after f g k) (is.planned.sig k) (ap (λ (z : List ℕ). slice_get z k) (sym sigs_are) ∙ at);
        callee_count = ap length callees_are ∙ is.planned.callee_table;
        callees = λ k n at. at_place plan.callees.table k n (callee_count f plan) (callee_after f g k) (is.planned.callee k) (ap (λ (z : List ℕ). slice_get z k) (sym callees_are) ∙ at);
      }
