use Rattle.std.proofs.Common.{ℕ, ap, sym, ◌∙◌}
use Rattle.std.specs.Prelude.{slice_get}
use Rattle.ir_semantics.specs.Import.{same_sigs}
use Rattle.body_import.specs.Compared.{all_sigs}
use Rattle.ir_semantics.proofs.Importing.{same_sigs_self}
use Rattle.body_import.proofs.comparing.MergedSigs.are_same.Goals as goal

pub returns-then-number : goal.returns-then-number
returns-then-number c =
    let all = all_sigs c.args.self.now in
    sym (same_sigs_self (slice_get all c.args.a)) ∙ ap (λ (n : ℕ). same_sigs (slice_get all c.args.a) (slice_get all n)) (sym c.number.ensures ∙ (c.if-number.true ∙ c.number-2.ensures))
