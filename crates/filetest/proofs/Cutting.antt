-- A text cut into its lines.
use Rattle.std.proofs.Common.{◌≡◌, ℕ, ◌+◌, ◌-◌, ◌<◌, ◌≤◌, ◌==◌, Bool, true, false, if◌then◌else◌, List, [], ◌∷◌, ◌++◌, length, take, drop, get_or, slice_range, refl, sym, ap, ◌∙◌, arith, length-drop, append_assoc, ◌≢◌}
use Rattle.std.proofs.lemmas.Bool.{eqb-true}
use Rattle.std.proofs.lemmas.List.{drop_more, take_more, get_or-drop}
use Rattle.clif_lex.specs.Bytes.{line_feed}
use Rattle.filetest.specs.LineTests.{Line, lines_after}

is_other : (a b : ℕ) → a ≢ b → (a == b) ≡ false
is_other a b h = go (a == b) refl
  where
    go : (t : Bool) → (a == b) ≡ t → t ≡ false
    go false e = refl
    go true e = absurd (h (eqb-true a b e))

-- one byte further
range_more : (text : List ℕ) (start i : ℕ) → start ≤ i → i < length text
    → slice_range text start (i + 1) ≡ slice_range text start i ++ get_or text i 0 ∷ []
range_more text start i s l =
    let e : (i + 1) - start ≡ (i - start) + 1 = omega arith in
    let n : i - start < length (drop start text) = omega (arith, length-drop start text) in
    let m : start + (i - start) ≡ i = omega arith in
    ap (λ k. take k (drop start text)) e
    ∙ (take_more (drop start text) (i - start) 0 n
    ∙ ap (λ c. take (i - start) (drop start text) ++ c ∷ []) (get_or-drop start text (i - start) 0 ∙ ap (λ k. get_or text k 0) m))

pub at_line_feed : (text : List ℕ) (before : List Line) (start i : ℕ) → i < length text → get_or text i 0 ≡ line_feed
    → before ++ lines_after (slice_range text start i) (drop i text)
    ≡ (before ++ slice_range text start i ∷ []) ++ lines_after (slice_range text (i + 1) (i + 1)) (drop (i + 1) text)
at_line_feed text before start i l e =
    let r = slice_range text start i in
    let rest = drop (i + 1) text in
    let z : (i + 1) - (i + 1) ≡ 0 = omega arith in
    ap (λ ds. before ++ lines_after r ds) (drop_more text i 0 l)
    ∙ (ap (λ c. before ++ lines_after r (c ∷ rest)) e
    ∙ (sym (append_assoc before (r ∷ []) (lines_after [] rest))
    ∙ ap (λ n. (before ++ r ∷ []) ++ lines_after (take n rest) rest) (sym z)))

pub at_other : (text : List ℕ) (start i : ℕ) → start ≤ i → i < length text → get_or text i 0 ≢ line_feed
    → lines_after (slice_range text start i) (drop i text) ≡ lines_after (slice_range text start (i + 1)) (drop (i + 1) text)
at_other text start i s l e =
    let r = slice_range text start i in
    let rest = drop (i + 1) text in
    ap (lines_after r) (drop_more text i 0 l)
    ∙ (ap (λ b. if b then r ∷ lines_after [] rest else lines_after (r ++ get_or text i 0 ∷ []) rest) (is_other (get_or text i 0) line_feed e)
    ∙ ap (λ xs. lines_after xs rest) (sym (range_more text start i s l)))
