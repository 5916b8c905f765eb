-- The tokens of a text are those of its stretches, one after the other.
use Rattle.std.proofs.Common.{◌≡◌, ℕ, zero, suc, ◌+◌, ◌-◌, ◌≤◌, ◌<◌, ◌⊎◌, Bool, true, false, ◌&&◌, leb, List, [], ◌∷◌, ◌++◌, length, take, drop, get_or, slice_get, slice_index, Some, Result, Ok, Err, refl, sym, ◌∙◌, ap, arith, inl, inr}
use Rattle.std.proofs.lemmas.Bool.{cases_Bool, leb-true, leb-false}
use Rattle.std.proofs.lemmas.List.{get_or-take, length-drop, length-take, take_all, nil_from_length, append-nil, take-append-drop, drop-take, drop-drop, drop_more}
use Rattle.std.proofs.lemmas.List.Folds.{list_all-append}
use Rattle.std.specs.List.{list_all}
use Rattle.clif_lex.specs.declared.spans.Token.{Token}
use Rattle.clif_lex.specs.declared.faults.LexErr.{LexErr}
use Rattle.clif_lex.specs.Lexing.{◌>>=◌, is_preamble, tokens_from, tokens_of}
use Rattle.clif_lex.specs.Spelling.{AreIn}
use Rattle.clif_lex.specs.Stretches.{stretch_tokens, preamble_after, IsStretch, IsLineStart, IsCut}
use Rattle.clif_lex.proofs.Spelled.{take_of_take}
use Rattle.clif_lex.proofs.Readings.{token_inside_text}
use Rattle.clif_lex.proofs.Joins.{then_tokens, none_before, lines_join}

-- nothing stands between a place and itself
pub nothing_between : (text : List ℕ) (at : ℕ) → drop at (take at text) ≡ []
nothing_between text at = nil_from_length (drop at (take at text)) (omega (arith, length-drop at (take at text), length-take at text))

nothing_more : (preamble : Bool) (at : ℕ) (read : Result (List Token) LexErr) → read ≡ (read >>= then_tokens preamble at [])
unfolding tokens_from
nothing_more preamble at (Ok ts) = ap (λ (xs : List Token). Ok xs) (sym (append-nil ts))
nothing_more preamble at (Err e) = refl

-- where a line feed stands before the cut, the bytes are the line before it, the line feed, and the rest
split_at_line : (text : List ℕ) (a b c : ℕ) → a < b → b ≤ c → c ≤ length text → slice_index text (b - 1) ≡ 10
    → drop a (take c text) ≡ drop a (take (b - 1) text) ++ (10 ∷ drop b (take c text))
split_at_line text a b c ordered further within feed =
    let whole = take c text in
    let len : length whole ≡ c = omega (arith, length-take c text) in
    let n = b - 1 - a in
    let halves : take n (drop a whole) ++ drop n (drop a whole) ≡ drop a whole = take-append-drop n (drop a whole) in
    let e : a + n ≡ b - 1 = omega arith in
    let front : drop a (take (b - 1) whole) ≡ take n (drop a whole) = rw e at (drop-take a n whole) in
    let same : take (b - 1) whole ≡ take (b - 1) text = take_of_take (b - 1) c text (omega arith) in
    let last : drop n (drop a whole) ≡ drop (b - 1) whole = drop-drop n a whole ∙ ap (λ (k : ℕ). drop k whole) (omega arith) in
    let f : b - 1 + 1 ≡ b = omega arith in
    let byte : get_or whole (b - 1) 0 ≡ 10 = get_or-take c text (b - 1) 0 (omega arith) ∙ feed in
    let more : drop (b - 1) whole ≡ 10 ∷ drop b whole = drop_more whole (b - 1) 0 (omega arith) ∙ rw (byte, f) refl in
    sym halves ∙ rw (← front, same, last, more) refl

-- The tokens from one place to a later one are those up to a cut between them, and then those from there on; or the first fault of them.
pub stretch_by_stretch : (text : List ℕ) (preamble : Bool) (a b c : ℕ) → a ≤ b → b ≤ c → c ≤ length text → IsCut text b
    → stretch_tokens text preamble a c ≡ (stretch_tokens text preamble a b >>= then_tokens preamble b (drop b (take c text)))
unfolding tokens_from
stretch_by_stretch text preamble a b c ordered further within (inside, inl end) =
    let e : c ≡ b = omega arith in
    rw (e, nothing_between text b) (nothing_more preamble b (stretch_tokens text preamble a b))
stretch_by_stretch text preamble a b c ordered further within (inside, inr start) = go (cases_Bool (leb b a)) start
  where
    go : (leb b a ≡ true) ⊎ (leb b a ≡ false) → IsLineStart text b → stretch_tokens text preamble a c ≡ (stretch_tokens text preamble a b >>= then_tokens preamble b (drop b (take c text)))
    go (inl none) start =
        let e : a ≡ b = omega (arith, leb-true b a none) in
        rw (e, nothing_between text b) (sym (none_before preamble b (drop b (take c text))))
    go (inr some) (inl front) = absurd (omega (arith, leb-false b a some))
    go (inr some) (inr (behind, feed)) =
        let before : a < b = omega (arith, leb-false b a some) in
        let line = drop a (take (b - 1) text) in
        let len : a + length line + 1 ≡ b = omega (arith, length-drop a (take (b - 1) text), length-take (b - 1) text) in
        let whole = split_at_line text a b c before further within feed in
        let half = split_at_line text a b b before (omega arith) inside feed in
        let r = tokens_from preamble 0 a line in
        let both : stretch_tokens text preamble a c ≡ (r >>= then_tokens preamble b (drop b (take c text))) = ap (tokens_from preamble 0 a) whole ∙ rw len at (lines_join preamble a line (drop b (take c text))) in
        let one : stretch_tokens text preamble a b ≡ (r >>= then_tokens preamble b (drop b (take b text))) = ap (tokens_from preamble 0 a) half ∙ rw len at (lines_join preamble a line (drop b (take b text))) in
        let alone : stretch_tokens text preamble a b ≡ r = one ∙ rw (nothing_between text b) (sym (nothing_more preamble b r)) in
        both ∙ ap (λ (x : Result (List Token) LexErr). x >>= then_tokens preamble b (drop b (take c text))) (sym alone)

-- the tokens of two stretches are those of the stretch that they make
pub stretches_join : (text : List ℕ) (preamble : Bool) (a b c : ℕ) (ts us : List Token) → IsStretch text preamble a b ts → IsCut text b → IsStretch text (preamble_after preamble ts) b c us → IsStretch text preamble a c (ts ++ us)
stretches_join text preamble a b c ts us front cut rest = record {
  ordered = let one = front.ordered in let two = rest.ordered in omega arith;
  within = rest.within;
  lexed =
      stretch_by_stretch text preamble a b c front.ordered rest.ordered rest.within cut
      ∙ ap (λ (x : Result (List Token) LexErr). x >>= then_tokens preamble b (drop b (take c text))) front.lexed
      ∙ ap (λ (x : Result (List Token) LexErr). x >>= λ vs. Ok (ts ++ vs)) rest.lexed;
}

-- no bytes have no tokens
pub empty_stretch : (text : List ℕ) (preamble : Bool) (at : ℕ) → at ≤ length text → IsStretch text preamble at at []
unfolding tokens_from
empty_stretch text preamble at inside = record { ordered = omega arith; within = inside; lexed = ap (tokens_from preamble 0 at) (nothing_between text at) }

-- the whole text is a stretch
pub whole_tokens : (text : List ℕ) → stretch_tokens text true 0 (length text) ≡ tokens_of text
whole_tokens text = ap (tokens_from true 0 0) (take_all (length text) text (omega arith))

pub whole_stretch : (text : List ℕ) (ts : List Token) → IsStretch text true 0 (length text) ts → tokens_of text ≡ Ok ts
whole_stretch text ts stretch = sym (whole_tokens text) ∙ stretch.lexed

pub stretch_of_whole : (text : List ℕ) (ts : List Token) → tokens_of text ≡ Ok ts → IsStretch text true 0 (length text) ts
stretch_of_whole text ts lexed = record { ordered = omega arith; within = omega arith; lexed = rw (take_all (length text) text (omega arith)) lexed }

-- each token of a text, and of a stretch, is in the text
pub tokens_are_in : (text : List ℕ) (ts : List Token) → tokens_of text ≡ Ok ts → AreIn text ts
tokens_are_in text ts lexed = record { each = token_inside_text text ts lexed }

-- whether a Header may stand behind two stretches: behind the second one, which stands behind the first
pub preamble_further : (preamble : Bool) (ts us : List Token) → preamble_after preamble (ts ++ us) ≡ preamble_after (preamble_after preamble ts) us
preamble_further false ts us = refl
preamble_further true ts us = list_all-append (λ t. is_preamble t.kind) ts us

some_other : (ts : List Token) (i : ℕ) (t : Token) → slice_get ts i ≡ Some t → is_preamble t.kind ≡ false → list_all (λ t. is_preamble t.kind) ts ≡ false
some_other [] i t found other = absurd cc
some_other (x ∷ xs) zero t found other = let same : x ≡ t = cc in rw (same, other) refl
some_other (x ∷ xs) (suc i) t found other = go (is_preamble x.kind) (some_other xs i t found other)
  where
    go : (b : Bool) → list_all (λ t. is_preamble t.kind) xs ≡ false → (b && list_all (λ t. is_preamble t.kind) xs) ≡ false
    go true e = e
    go false e = refl
