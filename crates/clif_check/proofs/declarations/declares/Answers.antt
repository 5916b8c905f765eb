use Rattle.std.proofs.Common.{◌≡◌, Some, List, length, refl, sym, ap, ◌∙◌}
use Rattle.std.specs.Prelude.{slice_get}
use Rattle.std.proofs.lemmas.Option.{slice_get_read}
use Rattle.ir_core.specs.declared.signatures.Sig.{Sig}
use Rattle.ir_core.proofs.Equal.{sig_equal}
use Rattle.clif_check.proofs.HeadLaws.{declared_by}
use Rattle.clif_check.proofs.declarations.declares.Goals as goal

pub returns-in-Some-get : goal.returns-in-Some-get
returns-in-Some-get g c = λ yes.
    let sigs = c.sigs.result.now in
    let k = c.number.result in
    let there : slice_get sigs k ≡ Some c.in-Some-get.sig.now =
    slice_get_read sigs (length sigs) k c.in-Some-get.sig.now refl c.in-Some-get.ensures.lookup.3.0 c.in-Some-get.ensures.lookup.1 in
    let same : c.in-Some-get.sig.now ≡ c.sig.result.now = sig_equal c.in-Some-get.sig.now c.sig.result.now (sym c.is_same_sig.ensures ∙ yes) in
    declared_by (g.N.Named.functions c.args.all.now) c.args.func.now.function c.args.callee.now c.in-Some.named.now.function c.in-Some.ensures
    (ap (λ (xs : List Sig). slice_get xs c.args.callee.now.sig) (sym c.sigs.ensures)
    ∙ (ap (slice_get sigs) (sym c.number.ensures) ∙ (there ∙ ap (λ (x : Sig). Some x) (same ∙ c.sig.ensures))))
