use Rattle.std.proofs.Common.{◌≡◌, sym, ap, ap₂, subst, ◌∙◌}
use Rattle.ir_core.specs.Sound.{IsSound}
use Rattle.ir_core.specs.Edits.{Body}
use Rattle.ir_core.specs.Layout.{function_of}
use Rattle.ir_core.proofs.Keeping.{sound_declared}
use Rattle.ir_core.proofs.func.Func.take_declarations.Goals as goal

taken : (c : goal.After-drop-self-inside-3) → function_of (record c.self.inside { slots = c.into_vec.result; sigs = c.into_vec-2.result; callees = c.into_vec-3.result }) ≡ record (function_of c.self.inside) { slots = c.args.slots; sigs = c.args.sigs; callees = c.args.callees }
taken c =
    ap₂ (λ slots sigs. record (function_of c.self.inside) { slots = slots; sigs = sigs; callees = c.into_vec-3.result.items }) c.into_vec.ensures c.into_vec-2.ensures
    ∙ ap (λ callees. record (function_of c.self.inside) { slots = c.args.slots; sigs = c.args.sigs; callees = callees }) c.into_vec-3.ensures

pub invariant_of-self : goal.invariant_of-self
invariant_of-self c =
    record {
      laid = c.self.invariant.laid;
      defined = c.self.invariant.defined;
      sound =
          subst IsSound (sym (taken c))
          (sound_declared (function_of c.self.inside) c.args.slots c.args.sigs c.args.callees
          (ap (λ (z : Body). z.function.slots) c.self.view_is ∙ c.requires.no_slots)
          (ap (λ (z : Body). z.function.sigs) c.self.view_is ∙ c.requires.no_sigs)
          (ap (λ (z : Body). z.function.callees) c.self.view_is ∙ c.requires.no_callees)
          c.self.invariant.sound c.requires.few_slots c.requires.few_sigs c.requires.few_callees c.requires.in_range);
    }

pub returns : goal.returns
returns c = taken c ∙ ap (λ (z : Body). record z.function { slots = c.args.slots; sigs = c.args.sigs; callees = c.args.callees }) c.self.view_is
