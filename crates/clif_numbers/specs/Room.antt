-- Canonical numbers in lists that have room for more without memory.
use Rattle.std.specs.Prelude.{ℕ, ◌≤◌, List, length}
use Rattle.ir_core.specs.Module.{Function}
use Rattle.ir_text.specs.Numbering.{Numbering}

-- A list of numbers, with room for so many in the list, and in the table of their places for numbers below a bound.
pub record PlacesInRoom : Type 0 where
  pub order : List ℕ
  pub listed : ℕ
  pub bound : ℕ

-- The numbers of a function, with room for those of one that has so many values and so many blocks.
pub record NumbersInRoom : Type 0 where
  pub numbering : Numbering
  pub values : ℕ
  pub blocks : ℕ

-- the function can be numbered without memory
pub record HasRoomFor (f : Function) (n : NumbersInRoom) : Type 0 where
  pub values : length f.types ≤ n.values
  pub blocks : length f.blocks ≤ n.blocks

-- no room is less than before
pub record KeepsRoom (old new : NumbersInRoom) : Type 0 where
  pub values : old.values ≤ new.values
  pub blocks : old.blocks ≤ new.blocks
