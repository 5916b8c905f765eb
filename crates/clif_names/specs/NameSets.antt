-- The names of functions so far, as a set of texts and a set of pairs of numbers.
use Rattle.std.specs.Prelude.{◌≡◌, ℕ, ℤ, ◌⊎◌, Bool, nat_eq, ◌&&◌, List, [], ◌∷◌, ◌++◌, slice_get, Some, if◌then◌else◌}
use Rattle.std.specs.List.{list_any}
use Rattle.std.specs.Ordering.{int_eq}
use Rattle.indexmap.specs.IndexSet.{keys}
use Rattle.clif_read.specs.declared.raw.RawFuncName.{RawFuncName}
use Rattle.clif_read.specs.declared.raw.RawFuncName.TheVariants as func_name
use Rattle.clif_names.specs.declared.repeated.NameSet.{NameSet}
use Rattle.clif_names.specs.Faults.{SameName}

-- the keys after one more, where none is equal to it
abbrev pub inserted : {K : Type 0} → (K → K → Bool) → List K → K → List K
inserted eq ks k = if list_any (eq k) ks then ks else ks ++ k ∷ []

abbrev pub same_pair : ℕ × ℤ → ℕ × ℤ → Bool
same_pair k l = nat_eq k.0 l.0 && int_eq k.1 l.1

-- one of the keys has this value
abbrev pub Holds : {K V : Type 0} → (K → V) → List K → V → Type 0
Holds value ks v = (i : ℕ) × (k : _) × (slice_get ks i ≡ Some k) × (value k ≡ v)

-- the name is in the set
abbrev pub Has : NameSet → RawFuncName → Type 0
Has set (func_name.Text bytes spot) = Holds (λ k. k.now) (keys set.texts) bytes
Has set (func_name.User space number) = Holds (λ k. k) (keys set.users) (space.number, number.value)

pub record IsEmptySet (set : NameSet) : Type 0 where
  pub texts : keys set.texts ≡ []
  pub users : keys set.users ≡ []

-- the new set has the names of the old one, and this name
pub record AddsName (old new : NameSet) (name : RawFuncName) : Type 0 where
  pub only : (other : RawFuncName) → Has new other → Has old other ⊎ SameName name other
  pub kept : (other : RawFuncName) → Has old other → Has new other
  pub added : (other : RawFuncName) → SameName name other → Has new other
