-- What is looked up of the signatures of functions.
use Rattle.std.specs.Prelude.{◌≡◌, ℕ, List, length, map, Option, Some, Bool, true, slice_get}
use Rattle.std.specs.Cmp.Lexicographic.{pointwise}
use Rattle.ir_core.specs.declared.signatures.Sig.{Sig}
use Rattle.ir_core.specs.Lookup.{param_types}
use Rattle.ir_core.specs.Module.{Function, Module}
use Rattle.ir_core.specs.Signatures.{same_type, same_sig}
use Rattle.sig_numbers.specs.declared.tables.SigEntry.{SigEntry}
use Rattle.sig_numbers.specs.declared.tables.SigTable.{SigTable}

-- the results of a signature have the types of those of `own`
abbrev pub return_alike : Sig → Sig → Bool
return_alike own s = pointwise same_type (param_types s.results) (param_types own.results)

-- signatures of one number are the same
abbrev pub Tells : (Sig → Option ℕ) → Type 0
Tells number = (s t : Sig) (n : ℕ) → number s ≡ Some n → number t ≡ Some n → same_sig s t ≡ true

abbrev pub numbers_in : List SigEntry → List ℕ
numbers_in es = map (λ (e : SigEntry). e.number) es

abbrev pub flags_in : List SigEntry → List Bool
flags_in es = map (λ (e : SigEntry). e.returns_alike) es

-- the entries of the signatures that a function declares, by the numbers that are given
pub record AreEntries (number : Sig → Option ℕ) (f : Function) (es : List SigEntry) : Type 0 where
  pub numbers : map Some (numbers_in es) ≡ map number f.sigs
  pub flags : flags_in es ≡ map (return_alike f.sig) f.sigs

-- the table of a function by them
pub record IsTable (number : Sig → Option ℕ) (f : Function) (t : SigTable) : Type 0 where
  pub own : number f.sig ≡ Some t.own
  pub entries : AreEntries number f t.entries.items

-- the entries of a function by some numbers
pub record Entered (f : Function) (es : List SigEntry) : Type 0 where
  pub number : Sig → Option ℕ
  pub tells : Tells number
  pub entries : AreEntries number f es

-- the tables of a module's functions
pub record AreTables (m : Module) (ts : List SigTable) : Type 0 where
  pub number : Sig → Option ℕ
  pub tells : Tells number
  pub count : length ts ≡ length m
  pub each : (i : ℕ) (f : Function) (t : SigTable) → slice_get m i ≡ Some f → slice_get ts i ≡ Some t
      → IsTable number f t
