use Rattle.std.proofs.Common.{arith, ◌≡◌, ◌+◌, ◌-◌, ◌<◌, ◌^◌, ◌++◌, length, refl, sym, ap, ap₂, subst, ◌∙◌}
use Rattle.std.specs.List.{enumerate_from}
use Rattle.ir_core.specs.Lists.{Each}
use Rattle.ir_core.specs.Sound.{IsSound}
use Rattle.ir_core.specs.Layout.{function_of}
use Rattle.ir_core.proofs.Keeping.{sound_append, numbered_more, length_numbered}
use Rattle.ir_core.proofs.func.Func.append.Goals as goal

longer : (c : goal.After-append_reserved-4) → function_of (record c.self.inside { slots = c.append_reserved.new.items; sigs = c.append_reserved-2.new.items; callees = c.append_reserved-3.new.items; types = c.append_reserved-4.new.items }) ≡ record (function_of c.self.inside) { slots = c.self.inside.slots.items ++ c.args.slots; sigs = c.self.inside.sigs.items ++ c.args.sigs; callees = c.self.inside.callees.items ++ c.args.callees; types = enumerate_from 0 (c.self.inside.types.items ++ c.args.values) }
longer c =
    ap₂ (λ slots sigs. record (function_of c.self.inside) { slots = slots; sigs = sigs; callees = c.append_reserved-3.new.items.items; types = enumerate_from 0 c.append_reserved-4.new.items.items }) c.append_reserved.ensures.items c.append_reserved-2.ensures.items
    ∙ ap₂ (λ callees types. record (function_of c.self.inside) { slots = c.self.inside.slots.items ++ c.args.slots; sigs = c.self.inside.sigs.items ++ c.args.sigs; callees = callees; types = enumerate_from 0 types }) c.append_reserved-3.ensures.items c.append_reserved-4.ensures.items

pub invariant_of-self : goal.invariant_of-self
invariant_of-self c =
    record {
      laid = c.self.invariant.laid;
      defined = c.self.invariant.defined;
      sound =
          subst IsSound (sym (longer c))
          (sound_append (function_of c.self.inside) c.self.inside.types.items c.args.values c.args.slots c.args.sigs c.args.callees refl c.self.invariant.sound
          (subst (λ z. length z.function.slots + length c.args.slots < 2 ^ 32 - 1) (sym c.self.view_is) c.requires.few_slots)
          (subst (λ z. length z.function.sigs + length c.args.sigs < 2 ^ 32 - 1) (sym c.self.view_is) c.requires.few_sigs)
          (subst (λ z. length z.function.callees + length c.args.callees < 2 ^ 32 - 1) (sym c.self.view_is) c.requires.few_callees)
          (subst (λ z. length z.function.types + length c.args.values < 2 ^ 32 - 1) (sym c.self.view_is) c.requires.few_values)
          (subst (λ z. Each (λ callee. callee.sig < length z.function.sigs + length c.args.sigs) c.args.callees) (sym c.self.view_is) c.requires.in_range));
    }

pub returns-clause-body : goal.returns-clause-body
returns-clause-body c =
    longer c
    ∙ (ap (λ z. record (function_of c.self.inside) { slots = c.self.inside.slots.items ++ c.args.slots; sigs = c.self.inside.sigs.items ++ c.args.sigs; callees = c.self.inside.callees.items ++ c.args.callees; types = z }) (numbered_more 0 (length (enumerate_from 0 c.self.inside.types.items)) c.self.inside.types.items c.args.values (omega (arith, length_numbered 0 c.self.inside.types.items)))
    ∙ ap (λ z. record z.function { slots = z.function.slots ++ c.args.slots; sigs = z.function.sigs ++ c.args.sigs; callees = z.function.callees ++ c.args.callees; types = z.function.types ++ enumerate_from (length z.function.types) c.args.values }) c.self.view_is)
