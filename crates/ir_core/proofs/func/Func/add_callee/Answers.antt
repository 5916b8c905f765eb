use Rattle.std.proofs.Common.{◌<◌, length, sym, subst}
use Rattle.ir_core.specs.Sound.{CanAdd, IsSound}
use Rattle.ir_core.specs.Layout.{function_of}
use Rattle.ir_core.proofs.Keeping.{sound_callee}
use Rattle.ir_core.proofs.func.Func.add_callee.Goals as goal

pub invariant_of-self-2 : goal.invariant_of-self-2
invariant_of-self-2 c =
    record {
      laid = c.self.invariant.laid;
      defined = c.self.invariant.defined;
      sound =
          subst (λ z. IsSound (record (function_of c.self.inside) { callees = z })) (sym c.in_ok-push.ensures.items)
          (sound_callee (function_of c.self.inside) c.args.callee c.self.invariant.sound (subst (λ z. CanAdd (length z.function.callees)) (sym c.self.view_is) c.requires.few) (subst (λ z. c.args.callee.sig < length z.function.sigs) (sym c.self.view_is) c.requires.in_range));
    }
