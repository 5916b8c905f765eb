use Rattle.std.proofs.Common.{List, ap}
use Rattle.ir_text.specs.TextTree.{spelled, more}
use Rattle.text_output.proofs.Puts.{goes, ◌▸◌}
use Rattle.clif_print.proofs.lists.put_more.Goals as goal

pub items-preserved : goal.items-preserved
items-preserved g c = goes _ c.items.invariant (ap (λ (l : List g.row.T.Denot). spelled (more (g.T.Item.text c.args.numbers.now.numbering) l)) c.in-Some.ensures.cases.0) (c.put.ensures ▸ c.put-in-Some.ensures)
