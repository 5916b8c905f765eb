-- What is found by numbers is what the definitions say by names.
use Rattle.std.proofs.Common.{ℕ, List, ◌∙◌, subst}
use Rattle.call_graph.specs.Turns.{Ordered}
use Rattle.call_graph.proofs.Bridging.{orders}
use Rattle.call_graph.proofs.ordering.pieces.Goals as goal

pub returns : goal.returns
returns c = λ m d e.
    let a = c.in_ok-piece.ensures in
    let o = subst (λ (p : List ℕ). Ordered c.args.graph.now p c.in_ok-list.list.items) c.deref.ensures.value c.in_ok-list.ensures in
    let r = orders m d c.args.graph.now e c.in_ok-piece.piece.items c.in_ok-list.list.items a.leasts a.pieced o in
    record { piece = c.from_vec.ensures ∙ r.0; list = c.from_vec-2.ensures ∙ r.1 }
