-- What the table of operations says of the types of its results.
use Rattle.std.specs.Prelude.{◌≡◌, List, Option, Some, None}
use Rattle.clk_num.specs.declared.op.Op.{Op}
use Rattle.clk_num.specs.declared.width.Width.{Width}
use Rattle.clk_num.specs.Rows.{row}
use Rattle.clk_num.specs.Operations.{DataValue, Evaluation, Values, Traps, NoRow, widths, operation}

-- an evaluation of a row with these results: values of these types, or a trap; without a row it is `NoRow`
abbrev pub IsOfRow : Option (List Width) → Evaluation → Type 0
IsOfRow None e = e ≡ NoRow
IsOfRow (Some results) (Values ys) = widths ys ≡ results
IsOfRow (Some results) (Traps code) = Unit {0}
IsOfRow (Some results) NoRow = ⊥

-- an operation gives what is of its row
abbrev pub KeepsRow : Op → List DataValue → Type 0
KeepsRow op xs = IsOfRow (row op (widths xs)) (operation op xs)
