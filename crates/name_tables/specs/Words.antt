-- Words of one kind by place in the text, and what may be wrong with them.
use Rattle.std.specs.Prelude.{◌≡◌, ℕ, suc, ◌<◌, List, [], ◌∷◌, slice_get, Some, map, nat_eq, if◌then◌else◌}
use Rattle.token_reader.specs.declared.raw.RawName.{RawName}

abbrev pub IsDefined : List RawName → ℕ → Type 0
IsDefined defs n = (i : ℕ) × (d : RawName) × (slice_get defs i ≡ Some d) × (d.number ≡ n)

-- a definition at this spot, and one of the same word before it
abbrev pub Repeats : List RawName → ℕ → Type 0
Repeats defs spot =
    (i j : ℕ) × (d e : RawName)
    × (slice_get defs i ≡ Some d) × (d.spot ≡ spot) × (j < i) × (slice_get defs j ≡ Some e) × (e.number ≡ d.number)

-- a use at this spot of a word without a definition
abbrev pub IsMissing : List RawName → List RawName → ℕ → Type 0
IsMissing defs uses spot =
    (i : ℕ) × (u : RawName) × (slice_get uses i ≡ Some u) × (u.spot ≡ spot) × (IsDefined defs u.number → ⊥)

-- the place of a number in a list, from 0; what is not in the list comes behind all that is
abbrev pub place_among : List ℕ → ℕ → ℕ
place_among [] n = 0
place_among (x ∷ xs) n = if nat_eq x n then 0 else suc (place_among xs n)

-- the place of a word's first definition among these
abbrev pub place_in : List RawName → ℕ → ℕ
place_in defs n = place_among (map (λ d. d.number) defs) n
