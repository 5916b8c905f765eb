use Rattle.std.proofs.Common.{◌≡◌, ◌<◌, ◌-◌, ℕ, List, [], ◌∷◌, length, take, drop, refl, sym, ap, subst, ◌∙◌, arith, length-drop}
use Rattle.std.proofs.lemmas.Bool.Decides.{nat_tests}
use Rattle.std.specs.List.{prefix_len}
use Rattle.clif_lex.specs.Bytes.{is_blank}
use Rattle.test_directives.specs.Blanks.{trim_front, words}
use Rattle.test_directives.proofs.Words.{word_len, trimmed_words, words_are, front_is_word}
use Rattle.test_directives.proofs.blanks.next_word.Goals as goal

empty : (xs : List ℕ) → length xs ≡ 0 → xs ≡ []
empty [] e = refl
empty (x ∷ xs) e = absurd (omega arith)

some_word : (t front : List ℕ) → front ≡ trim_front t → 0 < length front → 0 < word_len front
some_word t front e some = subst (λ (xs : List ℕ). 0 < word_len xs) (sym e) (front_is_word t (subst (λ (xs : List ℕ). 0 < length xs) e some))

pub returns-then-is_empty-clause-words : goal.returns-then-is_empty-clause-words
returns-then-is_empty-clause-words c =
    let none : length c.trim_front-front.result.now ≡ 0 = grind (arith, nat_tests, sym c.is_empty.ensures ∙ c.if-is_empty.true) in
    trimmed_words c.args.text.now ∙ ap words (sym c.trim_front-front.ensures ∙ empty c.trim_front-front.result.now none)

pub returns-clause-words : goal.returns-clause-words
returns-clause-words c =
    let front = c.trim_front-front.result.now in
    let some : 0 < length front = grind (arith, nat_tests, sym c.is_empty.ensures ∙ c.if-is_empty.false) in
    let w = some_word c.args.text.now front c.trim_front-front.ensures some in
    let x : take (word_len front) front ≡ c.split_at.result.0.now = ap (λ (k : ℕ). take k front) (sym c.word_len.ensures.len) ∙ sym c.split_at.ensures.front in
    let y : drop (word_len front) front ≡ c.split_at.result.1.now = ap (λ (k : ℕ). drop k front) (sym c.word_len.ensures.len) ∙ sym c.split_at.ensures.back in
    trimmed_words c.args.text.now ∙ (ap words (sym c.trim_front-front.ensures) ∙ (words_are front w ∙ (λ j. x j ∷ words (y j))))

pub returns-clause-shorter : goal.returns-clause-shorter
returns-clause-shorter c =
    let front = c.trim_front-front.result.now in
    let some : 0 < length front = grind (arith, nat_tests, sym c.is_empty.ensures ∙ c.if-is_empty.false) in
    let w = some_word c.args.text.now front c.trim_front-front.ensures some in
    let le : length (trim_front c.args.text.now) ≡ length c.args.text.now - prefix_len is_blank c.args.text.now = length-drop (prefix_len is_blank c.args.text.now) c.args.text.now in
    let same : length front ≡ length (trim_front c.args.text.now) = ap length c.trim_front-front.ensures in
    omega (arith, c.split_at.ensures.back_len, c.word_len.ensures.len, w, le, same)
