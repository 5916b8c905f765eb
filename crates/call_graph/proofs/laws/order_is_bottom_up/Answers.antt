-- The lemma is the law.
use Rattle.call_graph.proofs.Placing.{order_is_bottom_up}
use Rattle.call_graph.proofs.laws.order_is_bottom_up.Goals as goal

pub returns : goal.returns
returns c = order_is_bottom_up
