-- The number of some bytes that may be missing.
use Rattle.std.specs.Prelude.{ℕ, List, Option, Some, None, Bool}
use Rattle.ir_semantics.specs.Values.{number_of, by_endian}

abbrev pub number_at : Option (List ℕ) → Option ℕ
number_at None = None
number_at (Some bs) = Some (number_of bs)

-- the same in memory, where the highest stands first if it is big-endian
abbrev pub number_by : Bool → Option (List ℕ) → Option ℕ
number_by big None = None
number_by big (Some bs) = Some (number_of (by_endian big bs))
