-- Cells that are written one by one, as a function of their numbers.
use Rattle.std.specs.Prelude.{ℕ, zero, suc, List, [], ◌∷◌, Option, Some, None, nat_eq, if◌then◌else◌}

-- the cell of a number, in a list that ends where all cells are unwritten
abbrev pub cell_of : {A : Type 0} → List (Option A) → ℕ → Option A
cell_of [] at = None
cell_of (o ∷ os) zero = o
cell_of (o ∷ os) (suc at) = cell_of os at

abbrev pub put_cell : {A : Type 0} → (ℕ → Option A) → ℕ → A → ℕ → Option A
put_cell cells at value i = if nat_eq i at then Some value else cells i

-- the bytes of slots, by slot and offset
abbrev pub bytes_at : List (List (Option ℕ)) → ℕ → ℕ → Option ℕ
bytes_at [] slot = λ offset. None
bytes_at (s ∷ ss) zero = cell_of s
bytes_at (s ∷ ss) (suc slot) = bytes_at ss slot
