-- The types of an operation's results, as the code has them.
use Rattle.std.specs.Prelude.{List, [], ◌∷◌, Option, Some, None}
use Rattle.clk_num.specs.declared.width.Width.{Width}
use Rattle.ir_check.specs.declared.row_types.RowTypes.{RowTypes}
use Rattle.ir_check.specs.declared.row_types.RowTypes.TheVariants.{One, Two}

abbrev pub widths_in : RowTypes → List Width
widths_in (One a) = a ∷ []
widths_in (Two a b) = a ∷ b ∷ []

abbrev pub widths_of_row : Option RowTypes → Option (List Width)
widths_of_row None = None
widths_of_row (Some r) = Some (widths_in r)
