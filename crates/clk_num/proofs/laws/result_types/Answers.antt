use Rattle.clk_num.proofs.ResultLemmas.{keeps_row}
use Rattle.clk_num.proofs.laws.result_types.Goals as goal

pub returns : goal.returns
returns c = keeps_row
