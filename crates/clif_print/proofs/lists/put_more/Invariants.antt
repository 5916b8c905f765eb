use Rattle.std.proofs.Common.{length}
use Rattle.ir_text.specs.TextTree.{spelled, more}
use Rattle.text_output.proofs.Puts.{Going}
use Rattle.clif_print.proofs.lists.put_more.Given as goal

abbrev pub invariant-items : goal.invariant-items
invariant-items g l = Going g.O.Output.holds l.initial.out l.out (spelled (more (g.T.Item.text l.numbers.numbering) l.rest)) (spelled (more (g.T.Item.text l.numbers.numbering) l.items))

abbrev pub decreases-items : goal.decreases-items
decreases-items g l = length l.rest
