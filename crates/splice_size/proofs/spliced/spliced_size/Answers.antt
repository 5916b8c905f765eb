use Rattle.std.proofs.Common.{◌+◌, arith, length, sym, ap, ap₂, ◌∙◌}
use Rattle.ir_core.specs.Size.{capped, sig_size, total}
use Rattle.ir_core.specs.Viewed.{line_of}
use Rattle.splice_size.specs.Counts.{counts_of}
use Rattle.splice_size.specs.Laws.{TakesOver}
use Rattle.splice_size.specs.SizeAfter.{added_size, size_after}
use Rattle.splice_size.proofs.SpliceSizes.{size_of_splice}
use Rattle.splice_size.proofs.spliced.spliced_size.Goals as goal

pub returns-clause-number : goal.returns-clause-number
returns-clause-number c = omega (arith, ap length c.as_slice.ensures, ap (total sig_size) c.as_slice-2.ensures)

pub returns-clause-splice : goal.returns-clause-splice
returns-clause-splice c = λ p sited size site counts slots import.
    let sigs = c.args.import.now.sigs.added in
    let callees = c.args.import.now.callees.added in
    let over : TakesOver p.caller p.callee sigs callees = record { sigs_are = import.sigs; callees_are = import.callees } in
    let same =
    ap₂ (λ n l. size_after n l (counts_of p.callee) (added_size p.callee.slots sigs callees)) size site
    ∙ ap₂ (λ k n. size_after c.args.caller_size (line_of c.args.site.now) k ((n + length callees) + total sig_size sigs)) counts slots in
    returns-clause-number c ∙ ap capped (sym (size_of_splice p sited sigs callees over ∙ same))
