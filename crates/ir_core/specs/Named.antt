-- A module's functions, and its index of their places by name.
use Rattle.std.specs.Prelude.{◌≡◌, ℕ, Option, List, [], ◌∷◌, Bool, false, if◌then◌else◌, map, nat_eq, Vec}
use Rattle.std.specs.declared.cmp.Ordering.{Ordering}
use Rattle.std.specs.Ordering.{nat_cmp, ordering_then}
use Rattle.std.specs.Cmp.Lexicographic.{slice_cmp}
use Rattle.std.specs.List.{position_from}
use Rattle.std.specs.declared.alloc.Global.{Global}
use Rattle.std.specs.BTreeMap.{get_by}
use Rattle.std.specs.HashMap as hashed
use Rattle.std.specs.Hash.{le_bytes}
use Rattle.std.specs.Hash.FoldHasher as folding
use Rattle.ir_core.specs.declared.names.FuncName.TheVariants as name
use Rattle.ir_core.specs.declared.names.FuncName.{FuncName}
use Rattle.ir_core.specs.declared.index.Names.{Names}
use Rattle.ir_core.specs.declared.module.Module.TheInside.{Inside}
use Rattle.ir_core.specs.Module.{Function}
use Rattle.ir_core.specs.Lookup.{same_name}
use Rattle.ir_core.specs.Lists.{Each}
use Rattle.ir_core.specs.Edits.{Body}
use Rattle.ir_core.specs.Sound.{IsWhole}
use Rattle.ir_core.specs.WellFormed.{IsModule}

abbrev pub function_in : Body → Function
function_in body = body.function

abbrev pub functions_in : List Body → List Function
functions_in bodies = map function_in bodies

abbrev pub functions_of : Inside → List Function
functions_of s = functions_in s.funcs.items

-- the place of the first function that has the name
abbrev pub place_of : FuncName → List Function → Option ℕ
place_of n fs = position_from (λ f. same_name f.name n) 0 fs

-- what `hash` returns of a name
abbrev pub name_hash : FuncName → ℕ
name_hash (name.Text text) = folding.finish (folding.write folding.initial text)
name_hash (name.User first second) =
    folding.finish (folding.write (folding.write folding.initial (le_bytes 4 first)) (le_bytes 4 second))

-- the place of the first function whose name has the hash
abbrev pub place_of_hash : ℕ → List Function → Option ℕ
place_of_hash h fs = position_from (λ f. nat_eq (name_hash f.name) h) 0 fs

-- whether the first function whose name has the hash of this one has this name
abbrev pub is_first : FuncName → List Function → Bool
is_first n [] = false
is_first n (f ∷ fs) = if nat_eq (name_hash f.name) (name_hash n) then same_name f.name n else is_first n fs

-- how the two numbers of a name compare
abbrev pub compare_users : ℕ × ℕ → ℕ × ℕ → Ordering
compare_users p q = ordering_then (nat_cmp p.0 q.0) (nat_cmp p.1 q.1)

-- how the texts of names compare
abbrev pub compare_texts : List ℕ → Vec ℕ Global → Ordering
compare_texts text key = slice_cmp nat_cmp text key.items

-- the index has the place of each of these functions: of the first name with a hash by that hash, of the others by
-- their names
pub record IsIndex (names : Names) (fs : List Function) : Type 0 where
  pub places : (hash : ℕ) → hashed.get nat_eq names.places hash ≡ place_of_hash hash fs
  pub texts : (text : List ℕ) → is_first (name.Text text) fs ≡ false
      → get_by (compare_texts text) names.texts ≡ place_of (name.Text text) fs
  pub users : (first second : ℕ) → is_first (name.User first second) fs ≡ false
      → get_by (compare_users (first, second)) names.users ≡ place_of (name.User first second) fs

-- every function is whole, their names differ, and the index has the place of each
pub record IsNamed (s : Inside) : Type 0 where
  pub defined : Each IsWhole (functions_of s)
  pub functions : IsModule (functions_of s)
  pub index : IsIndex s.names (functions_of s)
