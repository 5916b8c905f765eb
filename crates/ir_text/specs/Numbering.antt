-- The canonical numbers of a function: values are numbered from 0 in order of definition in the text, parameters of a
-- block before the results of its instructions, and blocks by their place.
use Rattle.std.specs.Prelude.{ℕ, List, map}
use Rattle.ir_core.specs.Module.{Function, Module}
use Rattle.ir_core.specs.Lookup.{definitions, block_numbers}

-- values and blocks in their canonical order: the canonical number of each is its place
pub record Numbering : Type 0 where
  pub values : List ℕ
  pub blocks : List ℕ

abbrev pub numbering_of : Function → Numbering
numbering_of f = record { values = definitions f.blocks; blocks = block_numbers f.blocks }

abbrev pub numberings_of : Module → List Numbering
numberings_of m = map numbering_of m
