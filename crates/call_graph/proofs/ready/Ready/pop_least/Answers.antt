use Rattle.std.proofs.Common.{◌≡◌, ℕ, List, IfSome, ◌∷◌, ◌<◌, subst}
use Rattle.ir_core.specs.Lists.{In}
use Rattle.call_graph.proofs.Keys.{least_popped}
use Rattle.call_graph.proofs.ready.Ready.pop_least.Goals as goal

pub returns-clause-least : goal.returns-clause-least
returns-clause-least c =
    let now = c.pop_first.new.self.keys in
    subst (λ (was : List ℕ). IfSome c.pop_first.result (λ k. (was ≡ k ∷ now) × ((j : ℕ) → In j now → k < j))) c.self.view_is
    (least_popped c.pop_first.result c.self.inside.set.keys now c.pop_first.ensures.removal c.pop_first.ensures.all_above)
