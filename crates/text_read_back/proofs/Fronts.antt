-- The token that begins a text: a word, a name, a number, a mark or an arrow, with something behind it that is no part of it.
use Rattle.std.proofs.Common.{◌≡◌, ℕ, suc, ◌+◌, ◌-◌, ◌≤◌, Bool, true, false, ◌&&◌, List, [], ◌∷◌, ◌++◌, length, take, drop, Ok, refl, ap, ◌∙◌, arith}
use Rattle.std.specs.List.{list_all, prefix_len}
use Rattle.std.specs.Char.{is_ascii_digit}
use Rattle.std.proofs.lemmas.List.{take_at, drop_at}
use Rattle.std.proofs.lemmas.Bool.{and_parts}
use Rattle.std.proofs.lemmas.Bool.Decides.{nat_tests}
use Rattle.std.proofs.Math.Bool.{and-false}
use Rattle.clif_lex.specs.declared.spans.TokenKind.{TokenKind}
use Rattle.clif_lex.specs.declared.spans.TokenKind.TheVariants.{Name, Word, Arrow, Mark}
use Rattle.clif_lex.specs.Bytes.{is_blank, is_letter, is_word_byte, is_decimal_byte, is_mark, first}
use Rattle.clif_lex.specs.Lexing.{◌>>=◌, is_preamble, is_header_word, token, token_at, word_at, tokens_from}
use Rattle.clif_lex.proofs.Runs.{at_blank, at_token}
use Rattle.clif_lex.proofs.Fronts.{mark_no_digit, mark_no_sign}

-- a run ends where a byte doesn't pass
pub run_is : (p : ℕ → Bool) (cs rest : List ℕ) → list_all p cs ≡ true → p (first rest) ≡ false → prefix_len p (cs ++ rest) ≡ length cs
run_is p [] [] h e = refl
run_is p [] (c ∷ rest) h e = rw e refl
run_is p (c ∷ cs) rest h e =
    let b = and_parts (p c) (list_all p cs) h in
    rw (b.0, run_is p cs rest b.1 e) (let k : 1 + length cs ≡ suc (length cs) = omega arith in k)

pub first_of : (w rest : List ℕ) → 1 ≤ length w → first (w ++ rest) ≡ first w
first_of [] rest h = absurd (omega arith)
first_of (c ∷ w) rest h = refl

-- what is no byte of a word
pub no_letter : (b : ℕ) → is_word_byte b ≡ false → is_letter b ≡ false
no_letter b h = grind (arith, nat_tests)

pub no_decimal : (b : ℕ) → is_word_byte b ≡ false → is_decimal_byte b ≡ false
no_decimal b h = grind (arith, nat_tests)

letter_no_blank : (c : ℕ) → is_letter c ≡ true → is_blank c ≡ false
letter_no_blank c h = grind (arith, nat_tests)

pub digit_word : (c : ℕ) → is_ascii_digit c ≡ true → is_word_byte c ≡ true
digit_word c h = grind (arith, nat_tests)

pub letter_some : (w : List ℕ) → is_letter (first w) ≡ true → 1 ≤ length w
letter_some [] h = absurd cc
letter_some (c ∷ w) h = omega arith

pub all_wider : (p q : ℕ → Bool) → ((c : ℕ) → p c ≡ true → q c ≡ true) → (cs : List ℕ) → list_all p cs ≡ true → list_all q cs ≡ true
all_wider p q wider [] h = refl
all_wider p q wider (c ∷ cs) h =
    let b = and_parts (p c) (list_all p cs) h in
    rw (wider c b.0, all_wider p q wider cs b.1) refl

-- ---- a token, and what is read behind it

-- what is read behind a token of this length at the front
pub token_then : (preamble : Bool) (at : ℕ) (k : TokenKind) (w rest : List ℕ) → 1 ≤ length w → is_blank (first w) ≡ false → is_preamble k ≡ false
    → token_at preamble at (w ++ rest) ≡ Ok (token k at (length w))
    → tokens_from preamble 0 at (w ++ rest) ≡ (tokens_from false 0 (at + length w) rest >>= λ ts. Ok (token k at (length w) ∷ ts))
token_then preamble at k [] rest some blank kind h = absurd (omega arith)
token_then preamble at k (c ∷ cs) rest some blank kind h =
    let n : at + suc (length cs) - at ≡ suc (length cs) = omega arith in
    let d : drop (at + suc (length cs) - at) (c ∷ (cs ++ rest)) ≡ rest = ap (λ (m : ℕ). drop m (c ∷ (cs ++ rest))) n ∙ drop_at (c ∷ cs) rest (suc (length cs)) refl in
    let q : (preamble && is_preamble k) ≡ false = ap (λ (b : Bool). preamble && b) kind ∙ and-false preamble in
    at_token preamble at c (cs ++ rest) (token k at (suc (length cs))) blank h (omega arith)
    ∙ ap (λ (r : List ℕ). tokens_from (preamble && is_preamble k) 0 (at + suc (length cs)) r >>= λ ts. Ok (token k at (suc (length cs)) ∷ ts)) d
    ∙ ap (λ (b : Bool). tokens_from b 0 (at + suc (length cs)) rest >>= λ ts. Ok (token k at (suc (length cs)) ∷ ts)) q

pub blanks_then : (preamble : Bool) (at : ℕ) (bs rest : List ℕ) → list_all is_blank bs ≡ true → tokens_from preamble 0 at (bs ++ rest) ≡ tokens_from preamble 0 (at + length bs) rest
blanks_then preamble at [] rest h = ap (λ (k : ℕ). tokens_from preamble 0 k rest) (omega arith)
blanks_then preamble at (b ∷ bs) rest h =
    let g = and_parts (is_blank b) (list_all is_blank bs) h in
    at_blank preamble at b (bs ++ rest) g.0 ∙ blanks_then preamble (at + 1) bs rest g.1 ∙ ap (λ (k : ℕ). tokens_from preamble 0 k rest) (omega arith)

-- ---- words

word_here : (preamble : Bool) (at : ℕ) (text w : List ℕ) → is_letter (first text) ≡ true → prefix_len is_word_byte text ≡ length w → take (length w) text ≡ w → is_header_word w ≡ false
    → token_at preamble at text ≡ Ok (token Word at (length w))
unfolding token_at word_at
word_here preamble at text w l run t h = rw (l, run, t, h, and-false preamble) refl

pub word_then : (preamble : Bool) (at : ℕ) (w rest : List ℕ) → is_letter (first w) ≡ true → list_all is_word_byte w ≡ true → is_header_word w ≡ false → is_word_byte (first rest) ≡ false
    → tokens_from preamble 0 at (w ++ rest) ≡ (tokens_from false 0 (at + length w) rest >>= λ ts. Ok (token Word at (length w) ∷ ts))
word_then preamble at w rest l all h e =
    let some = letter_some w l in
    token_then preamble at Word w rest some (letter_no_blank (first w) l) refl
    (word_here preamble at (w ++ rest) w (ap is_letter (first_of w rest some) ∙ l) (run_is is_word_byte w rest all e) (take_at w rest (length w) refl) h)

-- ---- marks and arrows

mark_letter : (c : ℕ) → is_mark c ≡ true → is_letter c ≡ false
mark_letter c h = grind (arith, nat_tests)

mark_blank : (c : ℕ) → is_mark c ≡ true → is_blank c ≡ false
mark_blank c h = grind (arith, nat_tests)

mark_here : (preamble : Bool) (at c : ℕ) (text : List ℕ) → first text ≡ c → is_mark c ≡ true → token_at preamble at text ≡ Ok (token (Mark c) at 1)
unfolding token_at
mark_here preamble at c text f m = rw (f, mark_letter c m, mark_no_digit c m, mark_no_sign c m, m) refl

pub mark_then : (preamble : Bool) (at c : ℕ) (rest : List ℕ) → is_mark c ≡ true
    → tokens_from preamble 0 at (c ∷ rest) ≡ (tokens_from false 0 (at + 1) rest >>= λ ts. Ok (token (Mark c) at 1 ∷ ts))
mark_then preamble at c rest m = token_then preamble at (Mark c) (c ∷ []) rest (omega arith) (mark_blank c m) refl (mark_here preamble at c (c ∷ rest) refl m)

arrow_here : (preamble : Bool) (at : ℕ) (rest : List ℕ) → token_at preamble at (45 ∷ 62 ∷ rest) ≡ Ok (token Arrow at 2)
unfolding token_at
arrow_here preamble at rest = refl

pub arrow_then : (preamble : Bool) (at : ℕ) (rest : List ℕ) → tokens_from preamble 0 at (45 ∷ 62 ∷ rest) ≡ (tokens_from false 0 (at + 2) rest >>= λ ts. Ok (token Arrow at 2 ∷ ts))
arrow_then preamble at rest = token_then preamble at Arrow (45 ∷ 62 ∷ []) rest (omega arith) refl refl (arrow_here preamble at rest)

-- ---- names

name_here : (preamble : Bool) (at : ℕ) (bs rest : List ℕ) → is_word_byte (first (bs ++ rest)) ≡ true → prefix_len is_word_byte (bs ++ rest) ≡ length bs
    → token_at preamble at (37 ∷ (bs ++ rest)) ≡ Ok (token Name at (1 + length bs))
unfolding token_at
name_here preamble at bs rest f run = rw (f, run) refl

pub name_then : (preamble : Bool) (at : ℕ) (bs rest : List ℕ) → is_word_byte (first bs) ≡ true → list_all is_word_byte bs ≡ true → is_word_byte (first rest) ≡ false
    → tokens_from preamble 0 at (37 ∷ (bs ++ rest)) ≡ (tokens_from false 0 (at + suc (length bs)) rest >>= λ ts. Ok (token Name at (suc (length bs)) ∷ ts))
name_then preamble at bs rest f all e =
    token_then preamble at Name (37 ∷ bs) rest (omega arith) refl refl
    (name_here preamble at bs rest (ap is_word_byte (first_of bs rest (some bs f)) ∙ f) (run_is is_word_byte bs rest all e) ∙ ap (λ (n : ℕ). Ok (token Name at n)) (let k : 1 + length bs ≡ suc (length bs) = omega arith in k))
  where
    some : (bs : List ℕ) → is_word_byte (first bs) ≡ true → 1 ≤ length bs
    some [] f = absurd cc
    some (b ∷ bs) f = omega arith
