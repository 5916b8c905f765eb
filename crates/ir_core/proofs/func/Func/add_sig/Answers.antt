use Rattle.std.proofs.Common.{length, sym, subst}
use Rattle.ir_core.specs.Sound.{CanAdd, IsSound}
use Rattle.ir_core.specs.Layout.{function_of}
use Rattle.ir_core.proofs.Keeping.{sound_sig}
use Rattle.ir_core.proofs.func.Func.add_sig.Goals as goal

pub invariant_of-self-2 : goal.invariant_of-self-2
invariant_of-self-2 c =
    record {
      laid = c.self.invariant.laid;
      defined = c.self.invariant.defined;
      sound =
          subst (λ z. IsSound (record (function_of c.self.inside) { sigs = z })) (sym c.in_ok-push.ensures.items)
          (sound_sig (function_of c.self.inside) c.args.sig c.self.invariant.sound (subst (λ z. CanAdd (length z.function.sigs)) (sym c.self.view_is) c.requires.few));
    }
