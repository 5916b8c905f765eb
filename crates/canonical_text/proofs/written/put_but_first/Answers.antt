use Rattle.std.proofs.Common.{◌≡◌, ◌++◌, List, ℕ, drop, length, sym, ap, ◌∙◌}
use Rattle.std.specs.List.{flat_map}
use Rattle.std.specs.Ordering.{nat_cmp, ord_min}
use Rattle.std.proofs.lemmas.List.{take_rest}
use Rattle.text_output.proofs.Puts.{goes}
use Rattle.canonical_text.proofs.Pieces.{drop_across}
use Rattle.canonical_text.proofs.written.put_but_first.Goals as goal

pub texts-preserved : goal.texts-preserved
texts-preserved g c =
    let from = c.min-from.result in
    let bytes = c.as_slice-bytes.result.now in
    let least : from ≡ ord_min nat_cmp c.texts.skip (length bytes) = c.min-from.ensures in
    let put = rw (take_rest bytes from) at c.put.ensures in
    goes _ c.texts.invariant
    (ap (λ l. drop c.texts.skip (flat_map (λ text. text.items) l)) c.in-Some.ensures.cases.0
    ∙ (ap (λ (l : List ℕ). drop c.texts.skip (l ++ flat_map (λ text. text.items) c.in-Some.after.now)) (sym c.as_slice-bytes.ensures.value)
    ∙ drop_across c.texts.skip from bytes _ least))
    put
