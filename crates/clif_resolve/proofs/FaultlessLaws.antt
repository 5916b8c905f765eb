-- Where no least spot of faults is there, there is no fault, and where one is there, a fault stands at it.
use Rattle.std.proofs.Common.{◌≡◌, ℕ, true, false, is_none, ◌&&◌, List, Option, None, Some, slice_get, inl, inr}
use Rattle.std.proofs.lemmas.Bool.{and_cases, and_parts}
use Rattle.ir_core.specs.Lists.{Each}
use Rattle.clif_lex.specs.declared.faults.TextKind.{TextKind}
use Rattle.clif_lex.specs.declared.faults.TextKind.TheVariants.{Duplicate, Undefined, NumberRange, Untyped, TooLarge}
use Rattle.clif_read.specs.declared.raw.RawFunction.{RawFunction}
use Rattle.clif_read.specs.declared.raw.RawModule.{RawModule}
use Rattle.clif_names.specs.declared.least.LeastSpots.{LeastSpots}
use Rattle.clif_names.specs.Faults.{FunctionFault, ListFault, NoFault}
use Rattle.clif_names.specs.FunctionNames.{NoFunctionFault}
use Rattle.name_tables.specs.Least.{IsLeast}
use Rattle.clif_names.specs.LeastSpots.{AreLeast, has_none}
use Rattle.clif_lines.proofs.Parting.{each_at}

-- ---- one set of spots

nowhere : (P : ℕ → Type 0) (least : Option ℕ) → IsLeast P least → is_none least ≡ true → (spot : ℕ) → P spot → ⊥
nowhere P None h e = h
nowhere P (Some least) h e = absurd cc

somewhere : (P : ℕ → Type 0) (least : Option ℕ) → IsLeast P least → is_none least ≡ false → (spot : ℕ) × P spot
somewhere P None h e = absurd cc
somewhere P (Some least) h e = (least, h.0)

-- ---- those of each kind

record NoneStand (Stands : TextKind → ℕ → Type 0) : Type 0 where
  pub duplicate : (spot : ℕ) → Stands Duplicate spot → ⊥
  pub undefined : (spot : ℕ) → Stands Undefined spot → ⊥
  pub number_range : (spot : ℕ) → Stands NumberRange spot → ⊥
  pub untyped : (spot : ℕ) → Stands Untyped spot → ⊥
  pub too_large : (spot : ℕ) → Stands TooLarge spot → ⊥

module _ (Stands : TextKind → ℕ → Type 0) (least : LeastSpots) (h : AreLeast Stands least) where
  none_stand : has_none least ≡ true → NoneStand Stands
  none_stand e =
      let a = and_parts (is_none least.duplicate && is_none least.undefined && is_none least.number_range && is_none least.untyped) (is_none least.too_large) e in
      let b = and_parts (is_none least.duplicate && is_none least.undefined && is_none least.number_range) (is_none least.untyped) a.0 in
      let c = and_parts (is_none least.duplicate && is_none least.undefined) (is_none least.number_range) b.0 in
      let d = and_parts (is_none least.duplicate) (is_none least.undefined) c.0 in
      record {
        duplicate = nowhere (Stands Duplicate) least.duplicate h.duplicate d.0;
        undefined = nowhere (Stands Undefined) least.undefined h.undefined d.1;
        number_range = nowhere (Stands NumberRange) least.number_range h.number_range c.1;
        untyped = nowhere (Stands Untyped) least.untyped h.untyped b.1;
        too_large = nowhere (Stands TooLarge) least.too_large h.too_large a.1;
      }

  some_stands : has_none least ≡ false → ((kind : TextKind) (spot : ℕ) → Stands kind spot → ⊥) → ⊥
  some_stands e none =
      elim (and_cases (is_none least.duplicate && is_none least.undefined && is_none least.number_range && is_none least.untyped) (is_none least.too_large) e) [
        | inl a ↦ elim (and_cases (is_none least.duplicate && is_none least.undefined && is_none least.number_range) (is_none least.untyped) a) [
          | inl b ↦ elim (and_cases (is_none least.duplicate && is_none least.undefined) (is_none least.number_range) b) [
            | inl c ↦ elim (and_cases (is_none least.duplicate) (is_none least.undefined) c) [
              | inl d ↦ at Duplicate (somewhere (Stands Duplicate) least.duplicate h.duplicate d)
              | inr d ↦ at Undefined (somewhere (Stands Undefined) least.undefined h.undefined d)
            ]
            | inr c ↦ at NumberRange (somewhere (Stands NumberRange) least.number_range h.number_range c)
          ]
          | inr b ↦ at Untyped (somewhere (Stands Untyped) least.untyped h.untyped b)
        ]
        | inr a ↦ at TooLarge (somewhere (Stands TooLarge) least.too_large h.too_large a)
      ]
    where
      at : (kind : TextKind) → ((spot : ℕ) × Stands kind spot) → ⊥
      at kind stands = none kind stands.0 stands.1

-- ---- a function

module _ (f : RawFunction) (least : LeastSpots) (h : AreLeast (FunctionFault f) least) where
  pub function_free : has_none least ≡ true → NoFunctionFault f
  function_free e = by
    where
      by : (kind : TextKind) (spot : ℕ) → FunctionFault f kind spot → ⊥
      by Duplicate spot fault = (none_stand (FunctionFault f) least h e).duplicate spot fault
      by Undefined spot fault = (none_stand (FunctionFault f) least h e).undefined spot fault
      by NumberRange spot fault = (none_stand (FunctionFault f) least h e).number_range spot fault
      by Untyped spot fault = (none_stand (FunctionFault f) least h e).untyped spot fault
      by TooLarge spot fault = (none_stand (FunctionFault f) least h e).too_large spot fault
      by kind spot fault = absurd fault

  pub function_faulty : has_none least ≡ false → ¬ NoFunctionFault f
  function_faulty e free = some_stands (FunctionFault f) least h e free

-- ---- the functions of a module

abbrev pub NoListFault : List RawFunction → Type 0
NoListFault fs = (kind : TextKind) (spot : ℕ) → ListFault fs kind spot → ⊥

module _ (fs : List RawFunction) (least : LeastSpots) (h : AreLeast (ListFault fs) least) where
  pub list_free : has_none least ≡ true → NoListFault fs
  list_free e = by
    where
      by : (kind : TextKind) (spot : ℕ) → ListFault fs kind spot → ⊥
      by Duplicate spot fault = (none_stand (ListFault fs) least h e).duplicate spot fault
      by TooLarge spot fault = (none_stand (ListFault fs) least h e).too_large spot fault
      by kind spot fault = absurd fault

  list_faulty : has_none least ≡ false → ¬ NoListFault fs
  list_faulty e free = some_stands (ListFault fs) least h e free

module _ (raw : RawModule) where
  pub module_free : NoListFault raw.functions → Each NoFunctionFault raw.functions → NoFault raw
  module_free alone each kind spot fault = elim fault [
    | inl among ↦ alone kind spot among
    | inr (i, f, on, inside) ↦ each_at NoFunctionFault raw.functions i f each on kind spot inside
  ]

  pub faulty_by_list : (least : LeastSpots) → AreLeast (ListFault raw.functions) least → has_none least ≡ false → ¬ NoFault raw
  faulty_by_list least h e free = list_faulty raw.functions least h e (λ kind spot fault. free kind spot (inl fault))

  pub faulty_by_function : (i : ℕ) (f : RawFunction) → slice_get raw.functions i ≡ Some f → ¬ NoFunctionFault f → ¬ NoFault raw
  faulty_by_function i f on faulty free = faulty (λ kind spot fault. free kind spot (inr (i, f, on, fault)))
