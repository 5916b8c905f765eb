-- A table of the places of numbers in a list.
use Rattle.std.specs.Prelude.{◌≡◌, ℕ, ◌+◌, ◌<◌, ◌^◌, ◌⊎◌, List, length, slice_index_or}
use Rattle.ir_core.specs.Lookup.{number_in}

-- what the table has for a number: its place, and the length of the list for a number that the list does not have
abbrev pub IsEntry : List ℕ → ℕ → ℕ → Type 0
IsEntry order n entry =
    ((entry < length order) × (number_in order n ≡ entry))
    ⊎ ((entry ≡ length order) × (number_in order n ≡ n + length order))

pub record ArePlaces (order places : List ℕ) : Type 0 where
  pub small : length order < 2 ^ 32
  pub placed : (n : ℕ) → IsEntry order n (slice_index_or places n (length order))
