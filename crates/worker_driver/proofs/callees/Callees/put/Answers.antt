use Rattle.std.proofs.Common.{◌∙◌, sym, subst, ap, ◌++◌, ◌∷◌, [], List, ℕ}
use Rattle.std.specs.Arc.{arc_value}
use Rattle.worker_driver.specs.Held.{Held, IsHeld}
use Rattle.worker_driver.proofs.Putting.{bodies_put, has_put}
use Rattle.worker_driver.proofs.callees.Callees.put.Goals as goal

pub invariant_of-self-2 : goal.invariant_of-self-2
invariant_of-self-2 c = let p = c.self.inside.policy in let m = c.self.inside.functions.value in
    let puts = c.in_ok-insert.ensures.updates in (
      bodies_put p m c.self.inside.built c.insert.new.self c.args.func c.args.built puts c.self.invariant.0
          (subst (λ (h : Held). IsHeld h.policy h.functions c.args.func (arc_value c.args.built)) (sym c.self.view_is) c.requires),
      has_put p m c.self.inside.built c.insert.new.self c.args.func c.args.built puts c.self.inside.known.items c.push_reserved.new.self.items
          (c.push_reserved.ensures.items ∙ ap (λ (l : List ℕ). l ++ c.args.func ∷ []) c.in_ok-reserve.ensures.items) c.self.invariant.1,
    )
