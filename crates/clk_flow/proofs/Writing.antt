-- A piece that is written in several calls.
use Rattle.std.proofs.Common.{◌≡◌, ℕ, ◌-◌, ◌++◌, List, length, take, drop, length-drop, append_assoc, take-append-drop, sym, ap, ◌∙◌}
use Rattle.std.proofs.Math.Seq.{take-length}

-- the front of a piece grows by what a call took, and the rest is what the call left
pub split_further : (piece front rest : List ℕ) (count : ℕ) → piece ≡ front ++ rest → piece ≡ (front ++ take count rest) ++ take (length rest - count) (drop count rest)
split_further piece front rest count split =
    let left : take (length rest - count) (drop count rest) ≡ drop count rest =
    ap (λ (n : ℕ). take n (drop count rest)) (sym (length-drop count rest)) ∙ take-length (drop count rest) in
    split ∙ ap (λ (bytes : List ℕ). front ++ bytes) (sym (take-append-drop count rest)) ∙ sym (append_assoc front (take count rest) (drop count rest))
    ∙ ap (λ (bytes : List ℕ). (front ++ take count rest) ++ bytes) (sym left)
