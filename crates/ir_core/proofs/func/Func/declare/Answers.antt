use Rattle.std.proofs.Common.{arith, ◌++◌, ◌∷◌, [], length, refl, sym, ap, subst, ◌∙◌}
use Rattle.std.specs.List.{enumerate_from}
use Rattle.ir_core.specs.Sound.{CanAdd, IsSound}
use Rattle.ir_core.specs.Layout.{function_of}
use Rattle.ir_core.proofs.Keeping.{sound_value, length_numbered, numbered_one}
use Rattle.ir_core.proofs.func.Func.declare.Goals as goal

pub overflow_cast-number : goal.overflow_cast-number
overflow_cast-number c = omega (arith, ap (λ z. length z.function.types) c.self.view_is, length_numbered 0 c.self.inside.types.items, c.self.inside.types.ok.0, c.requires.few)

pub invariant_of-self-2 : goal.invariant_of-self-2
invariant_of-self-2 c =
    record {
      laid = c.self.invariant.laid;
      defined = c.self.invariant.defined;
      sound =
          subst (λ z. IsSound (record (function_of c.self.inside) { types = enumerate_from 0 z })) (sym c.in_ok-push.ensures.items)
          (sound_value (function_of c.self.inside) c.self.inside.types.items c.args.ty refl c.self.invariant.sound (subst (λ z. CanAdd (length z.function.types)) (sym c.self.view_is) c.requires.few));
    }

pub returns-clause-number : goal.returns-clause-number
returns-clause-number c = c.new.ensures ∙ (c.len-number.ensures ∙ (c.self.inside.types.ok.0 ∙ (sym (length_numbered 0 c.self.inside.types.items) ∙ ap (λ z. length z.function.types) c.self.view_is)))

pub returns-clause-ok : goal.returns-clause-ok
returns-clause-ok c =
    ap (λ z. record (function_of c.self.inside) { types = z })
    (ap (enumerate_from 0) c.in_ok-push.ensures.items
    ∙ numbered_one 0 (length (enumerate_from 0 c.self.inside.types.items)) c.self.inside.types.items c.args.ty (omega (arith, length_numbered 0 c.self.inside.types.items)))
    ∙ ap (λ z. record z.function { types = z.function.types ++ ((length z.function.types, c.args.ty) ∷ []) }) c.self.view_is
