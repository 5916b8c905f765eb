use Rattle.std.proofs.Common.{arith, ◌≡◌, suc, ◌∷◌, length, Some, refl, sym, ap, subst, ◌∙◌}
use Rattle.std.specs.Iterator.{YieldsFirst}
use Rattle.std.proofs.lemmas.Option.{slice_get_read}
use Rattle.ir_core.specs.Layout.{walk, nexts}
use Rattle.ir_core.proofs.Walking.{walk_step, walk_past}
use Rattle.ir_core.proofs.func.reading.BlocksIterator.next.Goals as goal

pub returns-in_err-entry-clause-steps : goal.returns-in_err-entry-clause-steps
returns-in_err-entry-clause-steps c =
    let number : c.self.inside.next ≡ Some c.number.result = c.in_ok-block.was ∙ ap (λ z. Some z) (sym c.number.ensures) in
    subst (λ r. YieldsFirst (λ left. left) c.args.self.now r (walk (nexts c.self.inside.blocks.now) c.in_ok-self-inside.field-0 c.self.inside.next)) (sym c.from_residual-in_err-entry.ensures) (
      sym c.self.view_is ∙ walk_past c.self.inside.blocks.now c.self.inside.left c.self.inside.next c.number.result number c.in_err-entry.ensures.lookup.3,
      walk_past c.self.inside.blocks.now c.in_ok-self-inside.field-0 c.self.inside.next c.number.result number c.in_err-entry.ensures.lookup.3,
    )

pub returns-clause-steps : goal.returns-clause-steps
returns-clause-steps c =
    let number : c.self.inside.next ≡ Some c.number.result = c.in_ok-block.was ∙ ap (λ z. Some z) (sym c.number.ensures) in
    let left : c.self.inside.left ≡ suc c.in_ok-self-inside.field-0 = omega (arith, c.in_ok-self-inside.ensures) in
    sym c.self.view_is
    ∙ (walk_step c.self.inside.blocks.now c.in_ok-self-inside.field-0 c.self.inside.left c.self.inside.next c.number.result c.in_ok-entry.entry.now left number
    (slice_get_read c.self.inside.blocks.now (length c.self.inside.blocks.now) c.number.result c.in_ok-entry.entry.now refl c.in_ok-entry.ensures.lookup.3.0 c.in_ok-entry.ensures.lookup.1)
    ∙ ap (λ z. z ∷ walk (nexts c.self.inside.blocks.now) c.in_ok-self-inside.field-0 c.in_ok-entry.entry.now.next) c.number.ensures)

pub returns-clause-goes : goal.returns-clause-goes
returns-clause-goes c = record { on = λ _. (tt, tt, omega (arith, ap length (returns-clause-steps c))); keeps = tt; rests = λ _. tt }
