use Rattle.std.proofs.Common.{◌≡◌, ℕ, List, sym, subst, ◌∙◌}
use Rattle.clif_check.specs.Faults.{IsFault}
use Rattle.clifinl.specs.Runs.{ReadsWhole}
use Rattle.clifinl.proofs.reading.read_canonical_text.Goals as goal

pub returns-clause-stopped : goal.returns-clause-stopped
returns-clause-stopped g c =
    let before = g.I.Source.left c.args.input.now in
    let after = g.I.Source.left c.read_input.new.input in
    let refused = c.as_slice-in-Err-make_canonical_text in
    let same : refused.result.now ≡ c.as_slice.result.now = refused.ensures.value ∙ sym c.as_slice.ensures.value in
    c.refuse_text.ensures before after (g.I.Source.faults c.args.input.now) (g.I.Source.faults c.read_input.new.input)
    (subst (ReadsWhole before after) (sym refused.ensures.value) c.in-Ok.ensures.whole)
    (subst (λ (text : List ℕ). IsFault text c.in-Err-make_canonical_text.err) (sym same)
    c.in-Err-make_canonical_text.ensures.fault)
