use Rattle.clk_num.proofs.Examples.{worked_rows, worked_arithmetic, worked_division, worked_bits, worked_shifts, worked_conversions, worked_refusals}
use Rattle.clk_num.proofs.laws.worked_examples.Goals as goal

pub returns : goal.returns
returns c = record {
  rows = worked_rows;
  arithmetic = worked_arithmetic;
  division = worked_division;
  bits = worked_bits;
  shifts = worked_shifts;
  conversions = worked_conversions;
  refusals = worked_refusals;
}
