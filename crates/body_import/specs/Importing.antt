-- A function that took over another's declarations and values.
use Rattle.std.specs.Prelude.{◌≡◌, ℕ, List, ◌++◌, length, map, slice_get, Some}
use Rattle.std.specs.List.{enumerate_from}
use Rattle.ir_core.specs.declared.signatures.Ty.{Ty}
use Rattle.ir_core.specs.declared.declarations.SlotDecl.{SlotDecl}
use Rattle.ir_core.specs.Module.{Function}
use Rattle.ir_semantics.specs.Import.{sigs_after, sig_after, callees_after, callee_after}
use Rattle.body_import.specs.declared.declarations.Import.{Import}
use Rattle.body_import.specs.declared.importing.Maps.{Maps}
use Rattle.body_import.specs.Imports.{IsImportOf}

-- f with g's slots behind its own, with each signature and callee declaration of g that it has no equal one of, and
-- with g's values behind its own
abbrev pub importing : Function → Function → Function
importing f g =
    record f {
      slots = f.slots ++ g.slots;
      sigs = sigs_after f g;
      callees = callees_after f g;
      types = f.types ++ enumerate_from (length f.types) (map (λ t. t.1) g.types);
    }

-- where g's slots and values begin in f then, and the number of each of its signatures and callee declarations there
pub record AreMapsOf (f g : Function) (m : Maps) : Type 0 where
  pub slot_base : m.slot_base ≡ length f.slots
  pub value_base : m.value_base ≡ length f.types
  pub sig_count : length m.sigs ≡ length g.sigs
  pub sigs : (k s : ℕ) → slice_get m.sigs k ≡ Some s → s ≡ sig_after f g k
  pub callee_count : length m.callees ≡ length g.callees
  pub callees : (k c : ℕ) → slice_get m.callees k ≡ Some c → c ≡ callee_after f g k

-- what stands ready to be appended is what f takes over from g
pub record IsPlanOf (f g : Function) (plan : Import) (new_slots : List SlotDecl) (new_values : List Ty) : Type 0 where
  pub planned : IsImportOf f g plan
  pub slots : new_slots ≡ g.slots
  pub values : new_values ≡ map (λ t. t.1) g.types
