use Rattle.std.proofs.Common.{List, ◌∷◌, ◌++◌, ℕ, [], map, ap, subst, ◌∙◌}
use Rattle.ir_core.specs.declared.declarations.Callee.{Callee}
use Rattle.ir_semantics.specs.Import.{same_callee}
use Rattle.body_import.specs.CalleeKeys.{key_among, renumbered}
use Rattle.body_import.specs.Compared.{all_sigs}
use Rattle.body_import.proofs.CalleesDecided.{callees_decide}
use Rattle.body_import.proofs.Compared.{Walked, walk_step, same_self}
use Rattle.body_import.proofs.Walks.{next_is}
use Rattle.body_import.proofs.comparing.import_few_callees.Goals as goal

pub loop-callee-preserved : goal.loop-callee-preserved
loop-callee-preserved c =
    let all = all_sigs c.args.sigs.now in
    let same = same_callee all in
    let own = c.args.own.now in
    let callees = c.args.callees.now in
    let moved : Callee → Callee = renumbered c.args.table.now in
    let before = subst (λ (z : List Callee). Walked same own c.loop-callee.added.items c.loop-callee.places.items (map moved callees) (map moved z)) (next_is callees c.loop-callee.callee-index c.callee-item.result c.loop-callee-test.true c.callee-item.is) c.loop-callee.invariant in
    walk_step same (same_self same (key_among all) (callees_decide all)) own c.loop-callee.added.items c.place_callee.new.added.items c.loop-callee.places.items c.push.new.self.items (map moved callees) _ (moved c.callee-item.result) c.in_ok-place.place before c.in_ok-place.ensures (c.in_ok-push.ensures.items ∙ ap (λ (n : ℕ). c.loop-callee.places.items ++ (n ∷ [])) c.new.ensures)
