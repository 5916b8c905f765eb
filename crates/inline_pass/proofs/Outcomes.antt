-- The outcomes of finished bodies, under other numbers too.
use Rattle.std.proofs.Common.{subst}
use Rattle.ir_semantics.specs.Same.{Same}
use Rattle.ir_semantics.specs.NeverStuck.{NeverStuck}
use Rattle.inline_outcomes.proofs.Keeping.{same_of}
use Rattle.inline_outcomes.proofs.Numbering.{kept_on, numbering_keeps_runs}
use Rattle.call_graph.specs.Order.{bottom_up}
use Rattle.inline_pass.specs.Finished.{passed}
use Rattle.inline_pass.specs.FinishedLaws.{FinishedKeep, RenumberedFinishedKeep}
use Rattle.inline_pass.proofs.Passing.{pass_keeps}
use Rattle.inline_pass.proofs.InOrder.{order_in_use, finished_keep_runs}

pub finished_keep : NeverStuck → FinishedKeep
finished_keep never p m is accepted = subst (Same m) (order_in_use p m is) (pass_keeps never p (bottom_up m) m is accepted)

pub renumbered_finished_keep : NeverStuck → RenumberedFinishedKeep
renumbered_finished_keep never p m r is accepted same = same_of never m r is accepted (kept_on m (passed p m) r (finished_keep_runs p m is) (numbering_keeps_runs (passed p m) r same))
