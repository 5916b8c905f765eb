-- The least spot of a set of spots.
use Rattle.std.specs.Prelude.{ℕ, ◌≤◌, nat_le, Option, None, Some, if◌then◌else◌}

-- the answer is the least spot of the set, or there is none
abbrev pub IsLeast : (ℕ → Type 0) → Option ℕ → Type 0
IsLeast P None = (spot : ℕ) → P spot → ⊥
IsLeast P (Some least) = P least × ((spot : ℕ) → P spot → least ≤ spot)

-- the smaller of two spots
abbrev pub earlier_spot : Option ℕ → ℕ → Option ℕ
earlier_spot None b = Some b
earlier_spot (Some a) b = if nat_le a b then Some a else Some b

abbrev pub earlier_of : Option ℕ → Option ℕ → Option ℕ
earlier_of a None = a
earlier_of a (Some b) = earlier_spot a b
