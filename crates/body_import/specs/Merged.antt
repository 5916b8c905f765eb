-- Which items of a list are new in another one.
use Rattle.std.specs.Prelude.{◌≡◌, ℕ, ◌+◌, ◌<◌, List, [], ◌∷◌, ◌++◌, length, map, Bool, true, false, if◌then◌else◌}
use Rattle.ir_core.specs.Lookup.{same_bytes}
use Rattle.ir_semantics.specs.Import.{with_item, with_items, first_place}
use Rattle.body_import.specs.declared.places.Places.{Places}
use Rattle.body_import.specs.declared.merging.Placed.{Placed}
use Rattle.body_import.specs.Keys.{Knows}

-- the list has no equal item
abbrev pub is_new : {A : Type 0} → (A → A → Bool) → List A → A → Bool
is_new same [] x = true
is_new same (y ∷ ys) x = if same y x then false else is_new same ys x

-- for each item whether it is appended
abbrev pub news : {A : Type 0} → (A → A → Bool) → List A → List A → List Bool
news same ys [] = []
news same ys (x ∷ xs) = is_new same ys x ∷ news same (with_item same ys x) xs

-- the items whose flag is set
abbrev pub keep : {A : Type 0} → List Bool → List A → List A
keep [] xs = []
keep (b ∷ bs) [] = []
keep (b ∷ bs) (x ∷ xs) = if b then x ∷ keep bs xs else keep bs xs

-- the place of a key in the list that has it
pub record KeyPlaced (olds fresh : List (List ℕ)) (own : Places) (k : List ℕ) (p : Placed) : Type 0 where
  pub fresh_now : List (List ℕ)
  pub knows : Knows (length olds) fresh_now own
  pub list : with_item same_bytes (olds ++ fresh) k ≡ olds ++ fresh_now
  pub flag : p.is_new ≡ is_new same_bytes (olds ++ fresh) k
  pub place : first_place same_bytes (olds ++ fresh_now) k ≡ p.place
  pub within : p.place < length olds + length fresh_now
  pub next : p.next ≡ length olds + length fresh_now

-- the places of all keys of the first list and of the second in the merged list, and which of the second's are new
abbrev pub key_places : List (List ℕ) → List (List ℕ) → List ℕ
key_places olds keys = map (first_place same_bytes (with_items same_bytes olds keys)) keys
