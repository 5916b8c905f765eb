-- Numbers as values of types, and what a host writes.
use Rattle.std.proofs.Common.{◌≡◌, ◌≢◌, ℕ, suc, ◌+◌, ◌<◌, List, [], ◌∷◌, ◌++◌, length, drop, Option, Some, None, get_or, refl, arith, ap, ◌∙◌, sym, drop-cons, add-one, append-nil, ℤ}
use Rattle.std.specs.Option.{option_map}
use Rattle.std.proofs.Math.Seq.{drop-length}
use Rattle.clk_num.specs.declared.bits.Bits.{Bits}
use Rattle.clk_num.specs.Operations.{DataValue}
use Rattle.clk_num.specs.Views.{data_of, data_of_all}
use Rattle.ir_core.specs.declared.signatures.Param.{Param}
use Rattle.ir_core.specs.declared.declarations.SlotDecl.{SlotDecl}
use Rattle.ir_core.specs.Lookup.{param_types, and_then}
use Rattle.ir_semantics.specs.Values.{cons_some, join, value_for, values_for, place_in}
use Rattle.interp.proofs.Reading.{next_some, next_none, more}

cons_none : {A : Type 0} (o : Option A) → cons_some o None ≡ None
cons_none None = refl
cons_none (Some x) = refl

pub values_apart : (ps : List Param) (zs : List ℤ) → length ps ≢ length zs → None ≡ values_for (param_types ps) zs
values_apart [] [] h = absurd (h refl)
values_apart [] (z ∷ zs) h = refl
values_apart (p ∷ ps) [] h = refl
values_apart (p ∷ ps) (z ∷ zs) h = sym (ap (λ o. cons_some (value_for p.ty z) o) (sym (values_apart ps zs (λ q. h (ap suc q)))) ∙ cons_none (value_for p.ty z))

pub values_step : (ps : List Param) (zs : List ℤ) (i : ℕ) (dp : Param) (dz : ℤ) (out : List Bits) (x : Bits) → i < length ps → length ps ≡ length zs → Some (data_of x) ≡ value_for (get_or ps i dp).ty (get_or zs i dz) → join (Some (data_of_all (out ++ x ∷ []))) (values_for (param_types (drop (i + 1) ps)) (drop (i + 1) zs)) ≡ join (Some (data_of_all out)) (values_for (param_types (drop i ps)) (drop i zs))
values_step ps zs i dp dz out x h q e =
    let k : i < length zs = omega arith in
    rw (drop-cons ps i dp h, drop-cons zs i dz k, ← e, add-one i, more out x) (sym (next_some (data_of_all out) (data_of x) (values_for (param_types (drop (suc i) ps)) (drop (suc i) zs))))

pub values_stop : (ps : List Param) (zs : List ℤ) (i : ℕ) (dp : Param) (dz : ℤ) (out : List DataValue) → i < length ps → length ps ≡ length zs → None ≡ value_for (get_or ps i dp).ty (get_or zs i dz) → None ≡ join (Some out) (values_for (param_types (drop i ps)) (drop i zs))
values_stop ps zs i dp dz out h q e =
    let k : i < length zs = omega arith in
    sym (rw (drop-cons ps i dp h, drop-cons zs i dz k, ← e) (next_none out (values_for (param_types (drop (suc i) ps)) (drop (suc i) zs))))

pub values_end : (ps : List Param) (zs : List ℤ) (i : ℕ) (out : List DataValue) → i ≡ length ps → length ps ≡ length zs → Some out ≡ join (Some out) (values_for (param_types (drop i ps)) (drop i zs))
values_end ps zs i out e q = sym (rw (e, drop-length ps, q, drop-length zs) (ap Some (append-nil out)))

-- ---- places in slots

pub no_place : (o : Option SlotDecl) (z : ℤ) (n : ℕ) → option_map (λ (d : SlotDecl). d.size) o ≡ None → None ≡ and_then o (λ d. place_in d.size z n)
no_place None z n h = refl
no_place (Some d) z n h = cc h
