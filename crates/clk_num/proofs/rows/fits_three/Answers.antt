use Rattle.clk_num.specs.declared.op.Op.TheVariants.{Select}
use Rattle.clk_num.specs.Rows.{row}
use Rattle.clk_num.proofs.RowLemmas.{row_at, three_have, without_row, ternary_row}
use Rattle.clk_num.proofs.rows.fits_three.Goals as goal

pub returns-in-Select : goal.returns-in-Select
unfolding row
returns-in-Select c = row_at _ Select _ _ c.in-Select.is (three_have _ _ _ c.same.ensures)

pub returns-in_default : goal.returns-in_default
returns-in_default c = without_row _ _ (λ h. c.in_default.not-Select (ternary_row _ _ _ _ h).0)
