-- The index of a function after a splice.
use Rattle.std.proofs.Common.{◌≡◌, List, sym, ap, ◌∙◌, subst}
use Rattle.std.specs.Prelude.{slice_get, Some}
use Rattle.ir_core.specs.declared.places.Point.{Point}
use Rattle.ir_core.specs.declared.signatures.Sig.{Sig}
use Rattle.ir_core.specs.declared.declarations.Callee.{Callee}
use Rattle.ir_core.specs.Module.{Line, Function}
use Rattle.ir_core.specs.Edits.{IsPoint, lines_of}
use Rattle.ir_core.specs.Sound.{IsSound}
use Rattle.ir_semantics.specs.Splice.{spliced}
use Rattle.body_import.specs.declared.declarations.Index.{Index}
use Rattle.body_import.specs.declared.declarations.Import.{Import}
use Rattle.body_import.specs.Imports.{IsIndexOf, IsImportOf, CanExtend, with_declarations}
use Rattle.body_import.proofs.Extended.{same_index}
use Rattle.inline_body.specs.PlainCall.{splicing_at, IsSplice}
use Rattle.inline_body.proofs.Ready.{spliced_at}

-- what f takes over can be put into its index
can_extend : (f g : Function) (i : Import) → IsSound f → IsImportOf f g i → CanExtend f i.sigs.added i.callees.added
can_extend f g i sound imported = record { in_range = sound.callees; first = imported.first }

spliced_index : (f g h : Function) (at : Point) (l : Line) (i : Import) (index : Index) → IsPoint f at → slice_get (lines_of at.block f.blocks) at.index ≡ Some l → IsSplice f g at h → IsImportOf f g i → IsIndexOf (with_declarations f i.sigs.added i.callees.added) index → IsIndexOf h index
spliced_index f g h at l i index there found is imported known =
    let e : h ≡ spliced (splicing_at is.naming f g at l) = is.is ∙ sym (spliced_at is.naming f g at l there.0 found) in
    same_index (with_declarations f i.sigs.added i.callees.added) h index (ap (λ (z : Function). z.sigs) e ∙ imported.sigs) (ap (λ (z : Function). z.callees) e ∙ imported.callees) known

-- the same, by what the call says that puts lists into the index which are those taken over
pub extended_index : (f g h : Function) (at : Point) (l : Line) (i : Import) (index : Index) (ss : List Sig) (cs : List Callee) → IsPoint f at → slice_get (lines_of at.block f.blocks) at.index ≡ Some l → IsSound f → IsSplice f g at h → IsImportOf f g i → ss ≡ i.sigs.added → cs ≡ i.callees.added → (CanExtend f ss cs → IsIndexOf (with_declarations f ss cs) index) → IsIndexOf h index
extended_index f g h at l i index ss cs there found sound is imported sigs callees extends =
    let can : CanExtend f ss cs = subst (λ (z : List Sig). CanExtend f z cs) (sym sigs) (subst (λ (z : List Callee). CanExtend f i.sigs.added z) (sym callees) (can_extend f g i sound imported)) in
    spliced_index f g h at l i index there found is imported (subst (λ (z : List Sig). IsIndexOf (with_declarations f z i.callees.added) index) sigs (subst (λ (z : List Callee). IsIndexOf (with_declarations f ss z) index) callees (extends can)))
