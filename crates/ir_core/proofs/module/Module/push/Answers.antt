use Rattle.std.proofs.Common.{◌≡◌, ◌++◌, [], ◌∷◌, None, sym, ap, ap₂, subst, ◌∙◌}
use Rattle.std.proofs.lemmas.List.{map_push}
use Rattle.ir_core.specs.Edits.{Body}
use Rattle.ir_core.specs.Lists.{Each}
use Rattle.ir_core.specs.Lookup.{find_function}
use Rattle.ir_core.specs.Named.{IsIndex, function_in, functions_in, functions_of}
use Rattle.ir_core.specs.Sound.{IsSound, IsWhole}
use Rattle.ir_core.specs.WellFormed.{WellFormed, DifferentNames}
use Rattle.ir_core.proofs.Members.{each_join}
use Rattle.ir_core.proofs.Wholeness.{whole_of, names_more}
use Rattle.ir_core.proofs.module.Module.push.Goals as goal

pub invariant_of-self-2 : goal.invariant_of-self-2
invariant_of-self-2 c =
    let before = c.self.invariant in
    let fs = functions_of c.self.inside in
    let f = c.args.func.function in
    let grown : functions_in c.push_reserved.new.self.items ≡ fs ++ (f ∷ []) =
    ap functions_in (c.push_reserved.ensures.items ∙ ap₂ (λ z (g : Body). z ++ (g ∷ [])) c.in_ok-reserve.ensures.items c.in_ok-func.ensures) ∙ map_push function_in c.self.inside.funcs.items c.args.func in
    let named : functions_in c.as_slice.result.now ≡ fs = ap functions_in (c.as_slice.ensures.value ∙ c.in_ok-reserve.ensures.items) in
    let new : find_function f.name fs ≡ None = ap (find_function f.name) c.self.view_is ∙ c.requires.new in
    let sound : IsSound f = subst (λ z. IsSound z.function) c.func.view_is c.func.invariant.sound in
    record {
      defined = subst (Each IsWhole) (sym grown) (each_join IsWhole fs (f ∷ []) before.defined (c.requires.whole, tt));
      functions = record {
        names = subst DifferentNames (sym grown) (names_more fs f before.functions.names new);
        whole = subst (Each WellFormed) (sym grown) (each_join WellFormed fs (f ∷ []) before.functions.whole (whole_of f sound c.requires.whole, tt));
      };
      index = subst (IsIndex c.add.new.self) (ap₂ (λ z (g : Body). z ++ (g.function ∷ [])) named (c.get-2.ensures ∙ c.in_ok-func.ensures) ∙ sym grown) c.in_ok-add.ensures.ok;
    }
