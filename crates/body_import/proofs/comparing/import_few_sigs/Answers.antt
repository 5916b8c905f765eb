use Rattle.std.proofs.Common.{List, ◌∷◌, ◌++◌, ℕ, [], ap, subst, ◌∙◌}
use Rattle.ir_core.specs.declared.signatures.Sig.{Sig}
use Rattle.ir_core.specs.Signatures.{same_sig}
use Rattle.body_import.specs.SigKeys.{sig_key}
use Rattle.body_import.proofs.Compared.{Walked, walk_step, same_self}
use Rattle.body_import.proofs.SigsDecided.{sigs_decide}
use Rattle.body_import.proofs.Walks.{next_is}
use Rattle.body_import.proofs.comparing.import_few_sigs.Goals as goal

pub loop-sig-preserved : goal.loop-sig-preserved
loop-sig-preserved c =
    let own = c.args.own.now in
    let sigs = c.args.sigs.now in
    let before = subst (λ (z : List Sig). Walked same_sig own c.loop-sig.added.items c.loop-sig.table.items sigs z) (next_is sigs c.loop-sig.sig-index c.sig-item.result c.loop-sig-test.true c.sig-item.is) c.loop-sig.invariant in
    walk_step same_sig (same_self same_sig sig_key sigs_decide) own c.loop-sig.added.items c.place_sig.new.added.items c.loop-sig.table.items c.push.new.self.items sigs _ c.sig-item.result c.in_ok-place.place before c.in_ok-place.ensures (c.in_ok-push.ensures.items ∙ ap (λ (n : ℕ). c.loop-sig.table.items ++ (n ∷ [])) c.new.ensures)
