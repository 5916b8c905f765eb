-- Blanks in front change no words, and the word in front is the first of them.
use Rattle.std.proofs.Common.{◌≡◌, ℕ, ◌+◌, ◌<◌, suc, zero, Bool, true, false, not, cond, List, [], ◌∷◌, length, take, drop, refl, sym, ap, subst, ◌∙◌, arith}
use Rattle.std.specs.List.{prefix_len}
use Rattle.clif_lex.specs.Bytes.{is_blank}
use Rattle.test_directives.specs.Blanks.{trim_front, with_first, first_and_words, words}

-- the words behind a byte that is a blank, or none
abbrev by_blank : Bool → ℕ → List ℕ → List (List ℕ) → List ℕ × List (List ℕ)
by_blank b c first ws = cond b ([], with_first first ws) (c ∷ first, ws)

at_blank : (c : ℕ) (cs : List ℕ) (b : Bool) → is_blank c ≡ b → first_and_words (c ∷ cs) ≡ by_blank b c (first_and_words cs).0 (first_and_words cs).1
at_blank c cs b e = ap (λ (d : Bool). by_blank d c (first_and_words cs).0 (first_and_words cs).1) e

pub drop_more : (n c : ℕ) (cs : List ℕ) → drop (1 + n) (c ∷ cs) ≡ drop n cs
drop_more n c cs = let e : 1 + n ≡ suc n = omega arith in ap (λ (k : ℕ). drop k (c ∷ cs)) e

pub take_more : (n c : ℕ) (cs : List ℕ) → take (1 + n) (c ∷ cs) ≡ c ∷ take n cs
take_more n c cs = let e : 1 + n ≡ suc n = omega arith in ap (λ (k : ℕ). take k (c ∷ cs)) e

pub trimmed_words : (t : List ℕ) → words t ≡ words (trim_front t)
trimmed_words [] = refl
trimmed_words (c ∷ cs) = go (is_blank c) refl (trimmed_words cs)
  where
    go : (b : Bool) → is_blank c ≡ b → words cs ≡ words (trim_front cs) → words (c ∷ cs) ≡ words (drop (prefix_len is_blank (c ∷ cs)) (c ∷ cs))
    go true e ih =
        ap (λ (p : List ℕ × List (List ℕ)). with_first p.0 p.1) (at_blank c cs true e) ∙ (ih
        ∙ ap words (sym (ap (λ (d : Bool). drop (cond d (1 + prefix_len is_blank cs) 0) (c ∷ cs)) e ∙ drop_more (prefix_len is_blank cs) c cs)))
    go false e ih = ap words (sym (ap (λ (d : Bool). drop (cond d (1 + prefix_len is_blank cs) 0) (c ∷ cs)) e))

abbrev pub word_len : List ℕ → ℕ
word_len t = prefix_len (λ c. not (is_blank c)) t

first_is : (t : List ℕ) → first_and_words t ≡ (take (word_len t) t, words (drop (word_len t) t))
first_is [] = refl
first_is (c ∷ cs) = go (is_blank c) refl (first_is cs)
  where
    len : (b : Bool) → is_blank c ≡ b → word_len (c ∷ cs) ≡ cond (not b) (1 + word_len cs) 0
    len b e = ap (λ (d : Bool). cond (not d) (1 + word_len cs) 0) e

    go : (b : Bool) → is_blank c ≡ b → first_and_words cs ≡ (take (word_len cs) cs, words (drop (word_len cs) cs))
        → first_and_words (c ∷ cs) ≡ (take (word_len (c ∷ cs)) (c ∷ cs), words (drop (word_len (c ∷ cs)) (c ∷ cs)))
    go true e ih =
        at_blank c cs true e ∙ sym (ap (λ (k : ℕ). (take k (c ∷ cs), words (drop k (c ∷ cs)))) (len true e)
        ∙ ap (λ (p : List ℕ × List (List ℕ)). ([], with_first p.0 p.1)) (at_blank c cs true e))
    go false e ih =
        at_blank c cs false e ∙ (ap (λ (p : List ℕ × List (List ℕ)). (c ∷ p.0, p.1)) ih
        ∙ sym (ap (λ (k : ℕ). (take k (c ∷ cs), words (drop k (c ∷ cs)))) (len false e)
        ∙ (λ j. (take_more (word_len cs) c cs j, words (drop_more (word_len cs) c cs j)))))

-- the words of a text that begins with no blank
pub words_are : (t : List ℕ) → 0 < word_len t → words t ≡ take (word_len t) t ∷ words (drop (word_len t) t)
words_are t some = ap (λ (p : List ℕ × List (List ℕ)). with_first p.0 p.1) (first_is t) ∙ go (word_len t) t some (words (drop (word_len t) t)) refl
  where
    at : (k x : ℕ) (xs : List ℕ) (ws : List (List ℕ)) → 0 < k → with_first (take k (x ∷ xs)) ws ≡ take k (x ∷ xs) ∷ ws
    at zero x xs ws less = absurd (omega arith)
    at (suc k) x xs ws less = refl

    go : (n : ℕ) (xs : List ℕ) → 0 < n → (ws : List (List ℕ)) → n ≡ word_len xs → with_first (take n xs) ws ≡ take n xs ∷ ws
    go n [] less ws e = absurd (let z : n ≡ 0 = e in omega arith)
    go n (x ∷ xs) less ws e = at n x xs ws less

-- a text without its blanks in front begins with none
pub front_is_word : (t : List ℕ) → 0 < length (trim_front t) → 0 < word_len (trim_front t)
front_is_word [] less = absurd (omega arith)
front_is_word (c ∷ cs) less = go (is_blank c) refl (front_is_word cs)
  where
    front : (b : Bool) → is_blank c ≡ b → trim_front (c ∷ cs) ≡ cond b (trim_front cs) (c ∷ cs)
    front true e = ap (λ (d : Bool). drop (cond d (1 + prefix_len is_blank cs) 0) (c ∷ cs)) e ∙ drop_more (prefix_len is_blank cs) c cs
    front false e = ap (λ (d : Bool). drop (cond d (1 + prefix_len is_blank cs) 0) (c ∷ cs)) e

    go : (b : Bool) → is_blank c ≡ b → (0 < length (trim_front cs) → 0 < word_len (trim_front cs)) → 0 < word_len (trim_front (c ∷ cs))
    go true e ih = subst (λ (xs : List ℕ). 0 < word_len xs) (sym (front true e)) (ih (subst (λ (xs : List ℕ). 0 < length xs) (front true e) less))
    go false e ih =
        let len : word_len (c ∷ cs) ≡ 1 + word_len cs = ap (λ (d : Bool). cond (not d) (1 + word_len cs) 0) e in
        subst (λ (xs : List ℕ). 0 < word_len xs) (sym (front false e)) (subst (λ (n : ℕ). 0 < n) (sym len) (omega arith))
