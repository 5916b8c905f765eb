-- The code's values and results as those of the definition of the operations.
use Rattle.std.specs.Prelude.{List, [], ◌∷◌, map}
use Rattle.clk_num.specs.declared.bits.Bits.{Bits}
use Rattle.clk_num.specs.declared.operations.Evaled.{Evaled}
use Rattle.clk_num.specs.declared.operations.Evaled.TheVariants.{One, Two, Trap}
use Rattle.clk_num.specs.Operations.{DataValue, Evaluation, Values, Traps}

-- the value
abbrev pub data_of : Bits → DataValue
data_of b = record { width = b.width; value = b.value }

-- the values of some operands
abbrev pub data_of_all : List Bits → List DataValue
data_of_all bs = map data_of bs

-- the results or the trap
abbrev pub evaluation_of : Evaled → Evaluation
evaluation_of (One a) = Values (data_of a ∷ [])
evaluation_of (Two a b) = Values (data_of a ∷ data_of b ∷ [])
evaluation_of (Trap code) = Traps code
