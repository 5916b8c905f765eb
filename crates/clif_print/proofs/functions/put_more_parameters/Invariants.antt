use Rattle.std.proofs.Common.{length}
use Rattle.ir_text.specs.TextTree.{spelled, more}
use Rattle.ir_text.specs.Text.{block_parameter}
use Rattle.text_output.proofs.Puts.{Going}
use Rattle.clif_print.proofs.functions.put_more_parameters.Given as goal

abbrev pub invariant-params : goal.invariant-params
invariant-params g l = Going g.O.Output.holds l.initial.out l.out (spelled (more (block_parameter l.func.function l.numbers.numbering) l.rest)) (spelled (more (block_parameter l.func.function l.numbers.numbering) l.params))

abbrev pub decreases-params : goal.decreases-params
decreases-params g l = length l.rest
