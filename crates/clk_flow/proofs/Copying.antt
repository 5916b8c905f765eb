-- A source in memory gives the bytes from a place on: its buffer is `held`, and what it has left are the bytes from
-- `start` on.
use Rattle.std.proofs.Common.{◌≡◌, ℕ, ◌+◌, ◌-◌, ◌<◌, ◌≤◌, ◌++◌, List, [], length, take, drop, length-drop, length-append, take-append-drop, sym, ap, ◌∙◌, arith}
use Rattle.std.proofs.Math.Seq.{take-length, take-append_seam}
use Rattle.std.proofs.lemmas.List.{drop-drop, length-take-le, nil_from_length}

abbrev pub window : List ℕ → ℕ → List ℕ
window held start = take (length held - start) (drop start held)

window_is : (held : List ℕ) (start : ℕ) → window held start ≡ drop start held
window_is held start = ap (λ (n : ℕ). take n (drop start held)) (sym (length-drop start held)) ∙ take-length (drop start held)

-- what was copied to the front of the room is what is no longer left
pub gives_front : (held bytes left copied rest : List ℕ) (start count : ℕ) → held ≡ bytes → drop start bytes ≡ left
    → copied ≡ take count (window held start) → count ≤ length (window held start) → left ≡ take count (copied ++ rest) ++ drop (start + count) bytes
gives_front held bytes left copied rest start count same is front few =
    let all : window held start ≡ left = window_is held start ∙ ap (drop start) same ∙ is in
    let long : length copied ≡ count = ap length front ∙ length-take-le count (window held start) few in
    let given : take count (copied ++ rest) ≡ take count left =
    ap (λ (n : ℕ). take n (copied ++ rest)) (sym long) ∙ take-append_seam copied rest ∙ front ∙ ap (take count) all in
    let kept : drop (start + count) bytes ≡ drop count left = sym (drop-drop count start bytes) ∙ ap (drop count) is in
    sym (take-append-drop count left) ∙ ap (λ (bytes : List ℕ). bytes ++ drop count left) (sym given) ∙ ap (λ (bytes : List ℕ). take count (copied ++ rest) ++ bytes) (sym kept)

-- where nothing was copied although there was room, nothing is left
pub is_over : (held bytes copied into : List ℕ) (start count : ℕ) → held ≡ bytes → length copied ≡ length (take count into) → count ≤ length into
    → (0 < length into → count ≡ 0 → length (window held start) ≡ 0) → count ≡ 0 → 0 < length (copied ++ drop count into) → drop (start + count) bytes ≡ []
is_over held bytes copied into start count same long few gives none some =
    let room : 0 < length into = omega (arith, long, length-take-le count into few, length-append copied (drop count into), length-drop count into, some) in
    let there = ap length (window_is held start) in let size = ap length same in let empty = gives room none in
    nil_from_length (drop (start + count) bytes) (omega (arith, length-drop (start + count) bytes, length-drop start held, there, size, none, empty))
