-- What stands in a range whose stretches are read one after the other.
use Rattle.std.specs.Prelude.{◌≡◌, ℕ, ◌+◌, ◌-◌, ◌<◌, List, ◌++◌, length, slice_index}

-- behind what stands up to the first place these items stand, up to the second
abbrev pub Follow : {T : Type 0} → (ℕ → ℕ → List T → Type 0) → ℕ → ℕ → List T → Type 0
Follow {T} stand from to items =
    (start : ℕ) (before : List T) → stand start from before → stand start to (before ++ items)

-- Places from one place to another, each of which is the end of a range that begins at the place before it.
pub record ArePartEnds (range : ℕ → ℕ → Type 0) (from to : ℕ) (cuts : List ℕ) : Type 0 where
  pub some : 0 < length cuts
  pub first : slice_index cuts 0 ≡ from
  pub last : slice_index cuts (length cuts - 1) ≡ to
  pub ranges : (i : ℕ) → i + 1 < length cuts → range (slice_index cuts i) (slice_index cuts (i + 1))
