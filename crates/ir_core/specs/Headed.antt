-- Functions of different names, and the index of their names.
use Rattle.std.specs.Prelude.{List}
use Rattle.ir_core.specs.declared.heads.Heads.TheInside.{Inside}
use Rattle.ir_core.specs.Module.{Function}
use Rattle.ir_core.specs.Named.{IsIndex, functions_in}
use Rattle.ir_core.specs.WellFormed.{DifferentNames}

abbrev pub heads_of : Inside → List Function
heads_of s = functions_in s.funcs.items

-- the names differ, and the index has the place of each
pub record AreNamed (s : Inside) : Type 0 where
  pub apart : DifferentNames (heads_of s)
  pub index : IsIndex s.names (heads_of s)
