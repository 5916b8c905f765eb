use Rattle.std.proofs.Common.{◌∙◌, ap, sym, map, take, ◌++◌, ◌∷◌, []}
use Rattle.std.proofs.lemmas.List.{map_more}
use Rattle.ir_core.specs.declared.declarations.Callee.{Callee}
use Rattle.ir_core.specs.Named.{place_of}
use Rattle.interp.proofs.link.find_callees.Goals as goal

pub callees-preserved : goal.callees-preserved
callees-preserved c =
    c.in_ok-push.ensures.items
    ∙ (ap (λ xs. xs ++ c.find.result ∷ []) c.callees.invariant
    ∙ (ap (λ o. map (λ (k : Callee). place_of k.name c.args.module.now) (take c.callees.callee-index c.args.callees.now) ++ o ∷ []) (c.find.ensures.place ∙ ap (λ (k : Callee). place_of k.name c.args.module.now) c.callee-item.is)
    ∙ sym (map_more (λ (k : Callee). place_of k.name c.args.module.now) c.args.callees.now c.callees.callee-index c.callee-item.result c.callees-test.true)))
