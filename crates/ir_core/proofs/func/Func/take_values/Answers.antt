use Rattle.std.proofs.Common.{◌≡◌, sym, ap, subst, ◌∙◌}
use Rattle.std.specs.List.{enumerate_from}
use Rattle.ir_core.specs.Sound.{IsSound}
use Rattle.ir_core.specs.Edits.{Body}
use Rattle.ir_core.specs.Layout.{function_of}
use Rattle.ir_core.proofs.Keeping.{sound_valued}
use Rattle.ir_core.proofs.func.Func.take_values.Goals as goal

taken : (c : goal.After-drop-self-inside) → function_of (record c.self.inside { types = c.into_vec.result }) ≡ record (function_of c.self.inside) { types = enumerate_from 0 c.args.values }
taken c = ap (λ types. record (function_of c.self.inside) { types = enumerate_from 0 types }) c.into_vec.ensures

pub invariant_of-self : goal.invariant_of-self
invariant_of-self c =
    record {
      laid = c.self.invariant.laid;
      defined = c.self.invariant.defined;
      sound =
          subst IsSound (sym (taken c))
          (sound_valued (function_of c.self.inside) c.args.values (ap (λ (z : Body). z.function.types) c.self.view_is ∙ c.requires.none) c.self.invariant.sound c.requires.few);
    }

pub returns : goal.returns
returns c = taken c ∙ ap (λ (z : Body). record z.function { types = enumerate_from 0 c.args.values }) c.self.view_is
