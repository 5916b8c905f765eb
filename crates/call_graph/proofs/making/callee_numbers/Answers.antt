use Rattle.std.proofs.Common.{[], ◌∷◌, ◌++◌, ap, ap₂, ◌∙◌, ℕ, Option}
use Rattle.ir_core.specs.declared.declarations.Callee.{Callee}
use Rattle.call_graph.specs.Calls.{number_of}
use Rattle.call_graph.proofs.Marking.{map_more, map_one}
use Rattle.call_graph.proofs.making.callee_numbers.Goals as goal

pub loop-callee-preserved : goal.loop-callee-preserved
loop-callee-preserved c =
    c.in_ok-push.ensures.items
    ∙ (ap₂ (λ z n. z ++ (n ∷ [])) c.loop-callee.invariant c.find-in-loop-callee.ensures.place
    ∙ map_more (λ (d : Callee). number_of c.args.module.now d.name) c.args.callees.now c.loop-callee.callee-index c.callee-item-in-loop-callee.result c.loop-callee-test.true c.callee-item-in-loop-callee.is)

pub returns-in-len1 : goal.returns-in-len1
returns-in-len1 c =
    c.one.ensures ∙ ap (λ (n : Option ℕ). n ∷ []) c.find.ensures.place
    ∙ map_one (λ (d : Callee). number_of c.args.module.now d.name) c.args.callees.now c.callee-item.result c.in-len1.len_at_least c.in-len1.len_below c.callee-item.is
