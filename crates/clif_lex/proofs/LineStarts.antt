-- Where lines begin.
use Rattle.std.proofs.Common.{◌≡◌, ℕ, ◌+◌, ◌-◌, ◌≤◌, ◌<◌, true, false, ◌⊎◌, nat_eq, leb, List, drop, take, length, slice_index, sym, ◌∙◌, ap, subst, arith, inl, inr, min}
use Rattle.std.proofs.lemmas.Bool.{cases_Bool, leb-true, leb-false}
use Rattle.std.proofs.lemmas.List.{length-take, length-drop, drop-drop}
use Rattle.std.proofs.lemmas.Slice.Eq.{bytes_eq-Decides}
use Rattle.std.specs.List.{starts_with}
use Rattle.memchr.specs.Find.{Nowhere, OccursAt}
use Rattle.memchr.proofs.lemmas.MatchLemmas.{OccursAt-part, OccursAt-from_part}
use Rattle.clif_lex.specs.Bytes.{line_feed}
use Rattle.clif_lex.specs.Stretches.{IsLineStart, IsLineWith}

-- what stands behind the place behind `at` stands so far behind `at`
drop_behind : (text : List ℕ) (at n : ℕ) → drop n (drop (at + 1) text) ≡ drop (at + (n + 1)) text
drop_behind text at n =
    let e : at + 1 + n ≡ at + (n + 1) = omega arith in
    drop-drop n (at + 1) text ∙ ap (λ (k : ℕ). drop k text) e

-- where a word occurs, the text goes on with it
pub goes_on_with : (text word : List ℕ) (at n : ℕ) → OccursAt (drop (at + 1) text) word n → starts_with nat_eq (drop (at + (n + 1)) text) word ≡ true
goes_on_with text word at n occurs =
    let part : take (length word) (drop (at + (n + 1)) text) ≡ word = sym (ap (take (length word)) (drop_behind text at n)) ∙ OccursAt-part (drop (at + 1) text) word n occurs in
    (bytes_eq-Decides word (take (length word) (drop (at + (n + 1)) text))).1 (sym part)

-- where the text goes on with a word, the word occurs
pub occurs_there : (text word : List ℕ) (at n : ℕ) → at + (n + 1) ≤ length text → starts_with nat_eq (drop (at + (n + 1)) text) word ≡ true → OccursAt (drop (at + 1) text) word n
occurs_there text word at n within goes =
    let rest = drop (at + (n + 1)) text in
    let part : word ≡ take (length word) rest = (bytes_eq-Decides word (take (length word) rest)).0 goes in
    let long : length word ≡ min (length word) (length rest) = ap length part ∙ length-take (length word) rest in
    OccursAt-from_part (drop (at + 1) text) word n (omega (arith, long, length-drop (at + (n + 1)) text, length-drop (at + 1) text, within)) (ap (take (length word)) (drop_behind text at n) ∙ sym part)

-- no line of the word begins behind one place and up to another
abbrev pub NoLine : List ℕ → List ℕ → ℕ → ℕ → Type 0
NoLine text word from to = (k : ℕ) → from < k → k ≤ to → IsLineWith word text k → ⊥

-- where the word does not occur, no line begins with it
pub none_between : (text word : List ℕ) (from at n : ℕ) → NoLine text word from at → Nowhere (OccursAt (drop (at + 1) text) word) 0 n → at + n ≤ length text → NoLine text word from (at + n)
none_between text word from at n before none within k above below line = go (cases_Bool (leb k at))
  where
    go : (leb k at ≡ true) ⊎ (leb k at ≡ false) → ⊥
    go (inl e) = before k above (leb-true k at e) line
    go (inr e) =
        let behind : at < k = leb-false k at e in
        let j : ℕ = k - (at + 1) in
        let is : k ≡ at + (j + 1) = omega (arith, behind) in
        none j (omega arith) (omega (arith, behind, below)) (occurs_there text word at j (omega (arith, is, below, within)) (subst (λ (i : ℕ). starts_with nat_eq (drop i text) word ≡ true) is line.1))

-- nor behind another byte than a line feed
pub none_more : (text word : List ℕ) (from at : ℕ) → NoLine text word from at → (slice_index text at ≡ line_feed → ⊥) → NoLine text word from (at + 1)
none_more text word from at before other k above below line = go (cases_Bool (leb k at))
  where
    feed : at < k → IsLineStart text k → ⊥
    feed behind (inl front) = absurd (omega (arith, behind, front))
    feed behind (inr (some, is)) =
        let e : at ≡ k - 1 = omega (arith, behind, below) in
        other (ap (slice_index text) e ∙ is)

    go : (leb k at ≡ true) ⊎ (leb k at ≡ false) → ⊥
    go (inl e) = before k above (leb-true k at e) line
    go (inr e) = feed (leb-false k at e) line.0
