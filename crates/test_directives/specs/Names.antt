-- Where the names of functions stand.
use Rattle.std.specs.Prelude.{◌≡◌, ℕ, suc, if◌then◌else◌, List, [], ◌∷◌, map, Option, Some, None}
use Rattle.std.specs.Str.{bytes_eq}
use Rattle.indexmap.specs.IndexMap.{IndexMap, get_by}
use Rattle.clif_read.specs.declared.raw.RawFunction.{RawFunction}
use Rattle.test_directives.specs.Directives.{spelled_name}

abbrev pub names_of : List RawFunction → List (List ℕ)
names_of fs = map (λ f. spelled_name f.name) fs

-- the place of the first of these names that is this one, where they are counted from `next` on
abbrev pub place_from : (next : ℕ) → List ℕ → List (List ℕ) → Option ℕ
place_from next name [] = None
place_from next name (x ∷ xs) = if bytes_eq name x then Some next else place_from (suc next) name xs

abbrev pub first_place : List ℕ → List (List ℕ) → Option ℕ
first_place name names = place_from 0 name names

-- the map has the first place of each name
abbrev pub ArePlaces : {K S : Type 0} → (K → List ℕ) → List (List ℕ) → IndexMap K ℕ S → Type 0
ArePlaces bytes names places =
    (name : List ℕ) → get_by (λ k. bytes_eq name (bytes k)) places ≡ first_place name names
