-- The lemma is the law.
use Rattle.call_graph.proofs.Walks.{reach_is_by_lists}
use Rattle.call_graph.proofs.laws.reach_is_by_lists.Goals as goal

pub returns : goal.returns
returns c = reach_is_by_lists
