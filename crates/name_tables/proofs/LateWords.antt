-- Words whose values are defined too late, by places.
use Rattle.std.proofs.Common.{◌≡◌, ℕ, ◌≤◌, List, slice_get, Some}
use Rattle.std.specs.Prelude.{nat_eq, position}
use Rattle.name_tables.specs.declared.links.End.{End}
use Rattle.name_tables.specs.declared.links.End.TheVariants.{At}

-- the end of the word's chain is not among so many words
abbrev pub IsLate : List ℕ → List End → ℕ → ℕ → Type 0
IsLate words ends count n = (p j : ℕ) × (position (nat_eq n) words ≡ Some p) × (slice_get ends p ≡ Some (At j)) × (count ≤ j)
