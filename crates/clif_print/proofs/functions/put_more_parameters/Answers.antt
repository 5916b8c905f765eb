use Rattle.std.proofs.Common.{List, ℕ, ap}
use Rattle.ir_text.specs.TextTree.{spelled, more}
use Rattle.ir_text.specs.Text.{block_parameter}
use Rattle.text_output.proofs.Puts.{goes, ◌▸◌}
use Rattle.clif_print.proofs.functions.put_more_parameters.Goals as goal

pub params-preserved : goal.params-preserved
params-preserved g c =
    goes _ c.params.invariant (ap (λ (l : List ℕ). spelled (more (block_parameter c.args.func.now.function c.args.numbers.now.numbering) l)) c.in-Some.ensures.cases.0) (c.put.ensures ▸ c.put_block_parameter.ensures)
