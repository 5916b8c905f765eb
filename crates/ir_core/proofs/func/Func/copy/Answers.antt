use Rattle.std.proofs.Common.{◌≡◌, length, sym, ap, ap₂, subst, ◌∙◌}
use Rattle.std.specs.List.{AllZip, enumerate_from}
use Rattle.ir_core.specs.Alike.{Alike}
use Rattle.ir_core.specs.Lookup.{definitions}
use Rattle.ir_core.specs.Sound.{IsSound}
use Rattle.ir_core.specs.Layout.{Laid, function_of, blocks_in}
use Rattle.ir_core.proofs.Copying.{blocks_alike, laid_alike}
use Rattle.ir_core.proofs.func.Func.copy.Goals as goal

alike : (c : goal.After-result-3-1) → AllZip Alike c.self.inside.blocks.items c.in_ok-from_clones-4.field-0.items
alike c = subst (λ z. AllZip Alike z c.in_ok-from_clones-4.field-0.items) c.as_slice-6.ensures.value c.in_ok-from_clones-4.ensures.items

insts : (c : goal.After-result-3-1) → c.in_ok-from_clones-3.field-0.items ≡ c.self.inside.insts.items
insts c = c.in_ok-from_clones-3.ensures.items_if_clones_equal (λ x y e. e) ∙ c.as_slice-5.ensures.value

blocks : (c : goal.After-result-3-1) → blocks_in c.in_ok-from_clones-3.field-0.items c.in_ok-from_clones-4.field-0.items c.self.inside.first ≡ (function_of c.self.inside).blocks
blocks c = ap (λ z. blocks_in z c.in_ok-from_clones-4.field-0.items c.self.inside.first) (insts c) ∙ blocks_alike c.self.inside.insts.items c.self.inside.blocks.items c.in_ok-from_clones-4.field-0.items c.self.inside.first c.self.inside.last (alike c)

same : (c : goal.After-result-3-1) → record { name = c.in_ok-clone.field-0; sig = c.in_ok-clone-2.field-0; slots = c.in_ok-from_slice.field-0.items; sigs = c.in_ok-from_clones.field-0.items; callees = c.in_ok-from_clones-2.field-0.items; types = enumerate_from 0 c.in_ok-from_slice-2.field-0.items; blocks = blocks_in c.in_ok-from_clones-3.field-0.items c.in_ok-from_clones-4.field-0.items c.self.inside.first } ≡ function_of c.self.inside
same c =
    ap₂ (λ name sig. record { name = name; sig = sig; slots = c.in_ok-from_slice.field-0.items; sigs = c.in_ok-from_clones.field-0.items; callees = c.in_ok-from_clones-2.field-0.items; types = enumerate_from 0 c.in_ok-from_slice-2.field-0.items; blocks = blocks_in c.in_ok-from_clones-3.field-0.items c.in_ok-from_clones-4.field-0.items c.self.inside.first }) c.in_ok-clone.ensures.cases c.in_ok-clone-2.ensures.cases
    ∙ (ap₂ (λ slots sigs. record (function_of c.self.inside) { slots = slots; sigs = sigs; callees = c.in_ok-from_clones-2.field-0.items; types = enumerate_from 0 c.in_ok-from_slice-2.field-0.items; blocks = blocks_in c.in_ok-from_clones-3.field-0.items c.in_ok-from_clones-4.field-0.items c.self.inside.first }) (c.in_ok-from_slice.ensures.items ∙ c.as_slice.ensures.value) (c.in_ok-from_clones.ensures.items_if_clones_equal (λ x y e. e) ∙ c.as_slice-2.ensures.value)
    ∙ (ap₂ (λ callees types. record (function_of c.self.inside) { callees = callees; types = enumerate_from 0 types; blocks = blocks_in c.in_ok-from_clones-3.field-0.items c.in_ok-from_clones-4.field-0.items c.self.inside.first }) (c.in_ok-from_clones-2.ensures.items_if_clones_equal (λ x y e. e) ∙ c.as_slice-3.ensures.value) (c.in_ok-from_slice-2.ensures.items ∙ c.as_slice-4.ensures.value)
    ∙ ap (λ z. record (function_of c.self.inside) { blocks = z }) (blocks c)))

pub invariant_of-result : goal.invariant_of-result
invariant_of-result c =
    record {
      laid =
          subst (λ z. Laid z c.in_ok-from_clones-4.field-0.items c.self.inside.first c.self.inside.last) (sym (insts c))
          (laid_alike c.self.inside.insts.items c.self.inside.blocks.items c.in_ok-from_clones-4.field-0.items c.self.inside.first c.self.inside.last (alike c) c.self.invariant.laid);
      defined = c.self.invariant.defined ∙ ap (λ z. length (definitions z)) (sym (blocks c));
      sound = subst IsSound (sym (same c)) c.self.invariant.sound;
    }

pub returns : goal.returns
returns c = same c ∙ ap (λ z. z.function) c.self.view_is
