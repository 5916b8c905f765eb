use Rattle.std.proofs.Common.{length, sym, subst}
use Rattle.ir_core.specs.Sound.{CanAdd, IsSound}
use Rattle.ir_core.specs.Layout.{function_of}
use Rattle.ir_core.proofs.Keeping.{sound_slot}
use Rattle.ir_core.proofs.func.Func.add_slot.Goals as goal

pub invariant_of-self-2 : goal.invariant_of-self-2
invariant_of-self-2 c =
    record {
      laid = c.self.invariant.laid;
      defined = c.self.invariant.defined;
      sound =
          subst (λ z. IsSound (record (function_of c.self.inside) { slots = z })) (sym c.in_ok-push.ensures.items)
          (sound_slot (function_of c.self.inside) c.args.slot c.self.invariant.sound (subst (λ z. CanAdd (length z.function.slots)) (sym c.self.view_is) c.requires.few));
    }
