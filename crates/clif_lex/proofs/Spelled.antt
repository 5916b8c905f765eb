-- Whatever is spelled at the front of a text is of the kind that its first bytes begin, and is no longer than the run that they begin.
use Rattle.std.proofs.Common.{◌≡◌, ℕ, zero, suc, ◌+◌, ◌≤◌, Bool, true, false, not, ◌||◌, ◌&&◌, ◌==◌, ◌⊎◌, cond, leb, List, [], ◌∷◌, length, take, drop, refl, ◌∙◌, ap, arith, inl, inr, codes}
use Rattle.std.proofs.lemmas.Bool.{and_parts, or_cases, and_from, or_left, or_right, cases_Bool, eqb-true, leb-true, leb-false}
use Rattle.std.proofs.lemmas.Bool.Decides.{nat_tests}
use Rattle.std.proofs.lemmas.Slice.Eq.{bytes_eq-Decides}
use Rattle.std.specs.Str.{bytes_eq}
use Rattle.std.specs.Char.{is_ascii_digit, is_ascii_hexdigit}
use Rattle.std.specs.List.{prefix_len, list_all}
use Rattle.clif_lex.specs.declared.spans.TokenKind.{TokenKind}
use Rattle.clif_lex.specs.declared.spans.TokenKind.TheVariants.{Header, Comment, Name, Word, Number, Srcloc, Arrow, Mark}
use Rattle.clif_lex.specs.Bytes.{percent, minus, semicolon, greater, at_sign, is_no_line_feed, is_letter, is_word_byte, is_sign, is_decimal_byte, is_hex_byte, is_mark, first, second}
use Rattle.clif_lex.specs.Numbers.{is_hex, unsigned, sign_len}
use Rattle.clif_lex.specs.Lexing.{begins_number, is_header_word}
use Rattle.clif_lex.specs.Spelling.{are_digits, spells}

-- what the first two bytes of a text begin
pub data Class : Type 0 where
  words : Class
  numbers : Class
  marks : Class
  names : Class
  comments : Class
  arrows : Class
  locations : Class
  lone_at : Class
  nothing : Class

abbrev pub begun : List ℕ → Class
begun text =
    cond (is_letter (first text)) words
    (cond (begins_number text) numbers
    (cond (is_mark (first text)) marks
    (cond (first text == percent && is_word_byte (second text)) names
    (cond (first text == semicolon) comments
    (cond (first text == minus && second text == greater) arrows
    (cond (first text == at_sign) (cond (is_ascii_hexdigit (second text)) locations lone_at) nothing))))))

abbrev pub class_of : TokenKind → Class
class_of Header = words
class_of Comment = comments
class_of Name = names
class_of Word = words
class_of Number = numbers
class_of Srcloc = locations
class_of Arrow = arrows
class_of (Mark c) = marks

abbrev pub word_run : List ℕ → ℕ
word_run text = prefix_len is_word_byte text

abbrev pub line_run : List ℕ → ℕ
line_run text = prefix_len is_no_line_feed text

-- how far the word or Header at the front reaches
abbrev pub word_reach : Bool → List ℕ → ℕ
word_reach preamble text = cond (preamble && is_header_word (take (word_run text) text)) (line_run text) (word_run text)

-- how far digits reach: of `0x` with no digit after it the `0` alone is a number
abbrev pub digits_reach : List ℕ → ℕ
digits_reach text = cond (is_hex text) (cond (is_ascii_hexdigit (first (drop 2 text))) (2 + prefix_len is_hex_byte (drop 2 text)) 1) (prefix_len is_decimal_byte text)

abbrev pub reach : Bool → Class → List ℕ → ℕ
reach preamble words text = word_reach preamble text
reach preamble numbers text = sign_len text + digits_reach (unsigned text)
reach preamble marks text = 1
reach preamble names text = 1 + word_run (drop 1 text)
reach preamble comments text = line_run text
reach preamble arrows text = 2
reach preamble locations text = 1 + prefix_len is_ascii_hexdigit (drop 1 text)
reach preamble lone_at text = 0
reach preamble nothing text = 0

abbrev pub IsBegun : Bool → TokenKind → ℕ → List ℕ → Type 0
IsBegun preamble kind n text = (begun text ≡ class_of kind) × (n ≤ reach preamble (class_of kind) text)

-- runs

pub covers : (p : ℕ → Bool) (n : ℕ) (xs : List ℕ) → n ≤ length xs → list_all p (take n xs) ≡ true → n ≤ prefix_len p xs
covers p zero xs h all = omega arith
covers p (suc n) [] h all = absurd (omega arith)
covers p (suc n) (x ∷ xs) h all =
    let parts = and_parts (p x) (list_all p (take n xs)) all in
    rw parts.0 (omega (arith, covers p n xs (omega arith) parts.1))

pub run_passes : (p : ℕ → Bool) (xs : List ℕ) → list_all p (take (prefix_len p xs) xs) ≡ true
run_passes p [] = refl
run_passes p (x ∷ xs) = go (run_passes p xs) (p x) refl
  where
    go : list_all p (take (prefix_len p xs) xs) ≡ true → (b : Bool) → p x ≡ b → list_all p (take (cond b (1 + prefix_len p xs) 0) (x ∷ xs)) ≡ true
    go all true e =
        let s : 1 + prefix_len p xs ≡ suc (prefix_len p xs) = omega arith in
        rw (s, e) all
    go all false e = refl

-- a longer run of a wider set
pub run_in_run : (p q : ℕ → Bool) → ((c : ℕ) → p c ≡ true → q c ≡ true) → (xs : List ℕ) → prefix_len p xs ≤ prefix_len q xs
run_in_run p q wider [] = omega arith
run_in_run p q wider (x ∷ xs) = go (run_in_run p q wider xs) (p x) refl
  where
    go : prefix_len p xs ≤ prefix_len q xs → (b : Bool) → p x ≡ b → cond b (1 + prefix_len p xs) 0 ≤ prefix_len q (x ∷ xs)
    go rest true e = rw (wider x e) (omega arith)
    go rest false e = omega arith

-- the run of a beginning that goes beyond it
pub run_of_take : (p : ℕ → Bool) (n : ℕ) (xs : List ℕ) → prefix_len p xs ≤ n → prefix_len p (take n xs) ≡ prefix_len p xs
run_of_take p zero [] h = refl
run_of_take p (suc n) [] h = refl
run_of_take p zero (x ∷ xs) h = omega arith
run_of_take p (suc n) (x ∷ xs) h = go (λ g. run_of_take p n xs g) (p x) h
  where
    go : (prefix_len p xs ≤ n → prefix_len p (take n xs) ≡ prefix_len p xs) → (b : Bool) → cond b (1 + prefix_len p xs) 0 ≤ suc n → cond b (1 + prefix_len p (take n xs)) 0 ≡ cond b (1 + prefix_len p xs) 0
    go rest true g = ap (λ k. 1 + k) (rest (omega arith))
    go rest false g = refl

pub take_of_take : (m n : ℕ) (xs : List ℕ) → m ≤ n → take m (take n xs) ≡ take m xs
take_of_take zero n xs h = refl
take_of_take (suc m) zero xs h = absurd (omega arith)
take_of_take (suc m) (suc n) [] h = refl
take_of_take (suc m) (suc n) (x ∷ xs) h = ap (λ ys. x ∷ ys) (take_of_take m n xs (omega arith))

-- what passes at the front of a beginning passes at the front of the whole
pub first_take : (p : ℕ → Bool) (n : ℕ) (xs : List ℕ) → p 0 ≡ false → p (first (take n xs)) ≡ true → p (first xs) ≡ true
first_take p zero xs none h = absurd cc
first_take p (suc n) [] none h = absurd cc
first_take p (suc n) (x ∷ xs) none h = h

pub word_byte_no_line_feed : (c : ℕ) → is_word_byte c ≡ true → is_no_line_feed c ≡ true
word_byte_no_line_feed c h = grind (arith, nat_tests)

pub word_in_line : (text : List ℕ) → word_run text ≤ line_run text
word_in_line text = run_in_run is_word_byte is_no_line_feed word_byte_no_line_feed text

in_word_reach : (preamble : Bool) (n : ℕ) (text : List ℕ) → n ≤ word_run text → n ≤ word_reach preamble text
in_word_reach preamble n text h = go (preamble && is_header_word (take (word_run text) text)) (word_in_line text)
  where
    go : (b : Bool) → word_run text ≤ line_run text → n ≤ cond b (line_run text) (word_run text)
    go true g = omega arith
    go false g = h

-- words

header_letter : (word : List ℕ) → is_header_word word ≡ true → is_letter (first word) ≡ true
header_letter word h = go (or_cases (bytes_eq word (codes "test") || bytes_eq word (codes "set")) (bytes_eq word (codes "target")) h)
  where
    at : (w : List ℕ) → is_letter (first w) ≡ true → bytes_eq word w ≡ true → is_letter (first word) ≡ true
    at w letter e = ap (λ xs. is_letter (first xs)) ((bytes_eq-Decides word w).0 e) ∙ letter

    go : ((bytes_eq word (codes "test") || bytes_eq word (codes "set")) ≡ true) ⊎ (bytes_eq word (codes "target") ≡ true) → is_letter (first word) ≡ true
    go (inl e) = elim (or_cases (bytes_eq word (codes "test")) (bytes_eq word (codes "set")) e) [ inl f ↦ at (codes "test") refl f | inr f ↦ at (codes "set") refl f ]
    go (inr e) = at (codes "target") refl e

pub words_begun : (text : List ℕ) → is_letter (first text) ≡ true → begun text ≡ words
words_begun text h = rw h refl

header_begun : (preamble : Bool) (n : ℕ) (text : List ℕ) → n ≤ length text → spells preamble Header (take n text) ≡ true → IsBegun preamble Header n text
header_begun preamble n text h s =
    let parts = and_parts (preamble && is_header_word (take (word_run (take n text)) (take n text))) (list_all is_no_line_feed (take n text)) s in
    let more = and_parts preamble (is_header_word (take (word_run (take n text)) (take n text))) parts.0 in
    let letter = first_take is_letter n text refl (first_take is_letter (word_run (take n text)) (take n text) refl (header_letter (take (word_run (take n text)) (take n text)) more.1)) in
    let line = covers is_no_line_feed n text h parts.1 in
    (words_begun text letter, go more.0 more.1 line (cases_Bool (leb n (word_run text))))
  where
    go : preamble ≡ true → is_header_word (take (word_run (take n text)) (take n text)) ≡ true → n ≤ line_run text → (leb n (word_run text) ≡ true) ⊎ (leb n (word_run text) ≡ false) → n ≤ word_reach preamble text
    go on word line (inl e) = in_word_reach preamble n text (leb-true n (word_run text) e)
    go on word line (inr e) =
        let beyond : word_run text ≤ n = omega (arith, leb-false n (word_run text) e) in
        let same = run_of_take is_word_byte n text beyond in
        let word' : is_header_word (take (word_run text) (take n text)) ≡ true = rw same at word in
        let word'' : is_header_word (take (word_run text) text) ≡ true = rw (take_of_take (word_run text) n text beyond) at word' in
        rw (on, word'') line

word_begun : (preamble : Bool) (n : ℕ) (text : List ℕ) → n ≤ length text → spells preamble Word (take n text) ≡ true → IsBegun preamble Word n text
word_begun preamble n text h s =
    let parts = and_parts (is_letter (first (take n text)) && list_all is_word_byte (take n text)) (not (preamble && is_header_word (take n text))) s in
    let more = and_parts (is_letter (first (take n text))) (list_all is_word_byte (take n text)) parts.0 in
    (words_begun text (first_take is_letter n text refl more.0), in_word_reach preamble n text (covers is_word_byte n text h more.1))

-- numbers

second_take : (p : ℕ → Bool) (n : ℕ) (xs : List ℕ) → p 0 ≡ false → p (second (take n xs)) ≡ true → p (second xs) ≡ true
second_take p zero xs none h = absurd cc
second_take p (suc n) [] none h = absurd cc
second_take p (suc n) (x ∷ xs) none h = first_take p n xs none h

pub hex_of_take : (n : ℕ) (text : List ℕ) → is_hex (take n text) ≡ true → is_hex text ≡ true
hex_of_take n text h =
    let parts = and_parts (first (take n text) == 48) (second (take n text) == 120) h in
    and_from (first text == 48) (second text == 120) (first_take (λ c. c == 48) n text refl parts.0) (second_take (λ c. c == 120) n text refl parts.1)

-- the decimal digits at the front of `0x`
pub hex_stops : (text : List ℕ) → is_hex text ≡ true → prefix_len is_decimal_byte text ≡ 1
hex_stops [] h = absurd cc
hex_stops (a ∷ []) h = absurd (let parts = and_parts (a == 48) (0 == 120) h in let e : false ≡ true = parts.1 in cc)
hex_stops (a ∷ b ∷ cs) h =
    let parts = and_parts (a == 48) (b == 120) h in
    rw (eqb-true a 48 parts.0, eqb-true b 120 parts.1) refl

pub hex_digit : (text : List ℕ) → is_hex text ≡ true → is_ascii_digit (first text) ≡ true
hex_digit text h = rw (eqb-true (first text) 48 (and_parts (first text == 48) (second text == 120) h).0) refl

hex_begun : (n : ℕ) (text : List ℕ) → n ≤ length text → is_ascii_hexdigit (first (drop 2 (take n text))) ≡ true → list_all is_hex_byte (drop 2 (take n text)) ≡ true
    → (is_ascii_hexdigit (first (drop 2 text)) ≡ true) × (n ≤ 2 + prefix_len is_hex_byte (drop 2 text))
hex_begun zero text h digit all = absurd cc
hex_begun (suc n) [] h digit all = absurd (omega arith)
hex_begun (suc zero) (a ∷ cs) h digit all = absurd cc
hex_begun (suc (suc n)) (a ∷ []) h digit all = absurd (omega arith)
hex_begun (suc (suc n)) (a ∷ b ∷ cs) h digit all = (first_take is_ascii_hexdigit n cs refl digit, omega (arith, covers is_hex_byte n cs (omega arith) all))

pub digits_begun : (n : ℕ) (text : List ℕ) → n ≤ length text → are_digits (take n text) ≡ true → (is_ascii_digit (first text) ≡ true) × (n ≤ digits_reach text)
digits_begun n text h s =
    go (or_cases (is_ascii_digit (first (take n text)) && list_all is_decimal_byte (take n text))
    (is_hex (take n text) && is_ascii_hexdigit (first (drop 2 (take n text))) && list_all is_hex_byte (drop 2 (take n text))) s)
  where
    decimal : (b d : Bool) → is_hex text ≡ b → n ≤ prefix_len is_decimal_byte text → n ≤ cond b (cond d (2 + prefix_len is_hex_byte (drop 2 text)) 1) (prefix_len is_decimal_byte text)
    decimal false d e g = g
    decimal true true e g = omega (arith, hex_stops text e)
    decimal true false e g = omega (arith, hex_stops text e)

    go : ((is_ascii_digit (first (take n text)) && list_all is_decimal_byte (take n text)) ≡ true)
        ⊎ ((is_hex (take n text) && is_ascii_hexdigit (first (drop 2 (take n text))) && list_all is_hex_byte (drop 2 (take n text))) ≡ true)
        → (is_ascii_digit (first text) ≡ true) × (n ≤ digits_reach text)
    go (inl e) =
        let parts = and_parts (is_ascii_digit (first (take n text))) (list_all is_decimal_byte (take n text)) e in (
          first_take is_ascii_digit n text refl parts.0,
          decimal (is_hex text) (is_ascii_hexdigit (first (drop 2 text))) refl (covers is_decimal_byte n text h parts.1),
        )
    go (inr e) =
        let parts = and_parts (is_hex (take n text) && is_ascii_hexdigit (first (drop 2 (take n text)))) (list_all is_hex_byte (drop 2 (take n text))) e in
        let more = and_parts (is_hex (take n text)) (is_ascii_hexdigit (first (drop 2 (take n text)))) parts.0 in
        let hex = hex_of_take n text more.0 in
        let found = hex_begun n text h more.1 parts.1 in
        (hex_digit text hex, rw (hex, found.0) found.1)

pub digit_no_letter : (c : ℕ) → is_ascii_digit c ≡ true → is_letter c ≡ false
digit_no_letter c h = grind (arith, nat_tests)

pub sign_no_letter : (c : ℕ) → is_sign c ≡ true → is_letter c ≡ false
sign_no_letter c h = grind (arith, nat_tests)

pub numbers_begun : (text : List ℕ) → begins_number text ≡ true → begun text ≡ numbers
numbers_begun text h = rw (no_letter (or_cases (is_ascii_digit (first text)) (is_sign (first text) && is_ascii_digit (second text)) h), h) refl
  where
    no_letter : (is_ascii_digit (first text) ≡ true) ⊎ ((is_sign (first text) && is_ascii_digit (second text)) ≡ true) → is_letter (first text) ≡ false
    no_letter (inl e) = digit_no_letter (first text) e
    no_letter (inr e) = sign_no_letter (first text) (and_parts (is_sign (first text)) (is_ascii_digit (second text)) e).0

number_begun : (preamble : Bool) (n : ℕ) (text : List ℕ) → n ≤ length text → spells preamble Number (take n text) ≡ true → IsBegun preamble Number n text
number_begun preamble zero text h s = absurd cc
number_begun preamble (suc n) [] h s = absurd (omega arith)
number_begun preamble (suc n) (c ∷ cs) h s = go (is_sign c) refl s
  where
    go : (b : Bool) → is_sign c ≡ b → are_digits (drop (cond b 1 0) (c ∷ take n cs)) ≡ true → IsBegun preamble Number (suc n) (c ∷ cs)
    go true e d =
        let found = digits_begun n cs (omega arith) d in
        let begins : begins_number (c ∷ cs) ≡ true = or_right (is_ascii_digit c) (is_sign c && is_ascii_digit (first cs)) (and_from (is_sign c) (is_ascii_digit (first cs)) e found.0) in
        (numbers_begun (c ∷ cs) begins, rw e (omega (arith, found.1)))
    go false e d =
        let found = digits_begun (suc n) (c ∷ cs) h d in
        let begins : begins_number (c ∷ cs) ≡ true = or_left (is_ascii_digit c) (is_sign c && is_ascii_digit (first cs)) found.0 in
        (numbers_begun (c ∷ cs) begins, rw e (omega (arith, found.1)))

-- the other kinds

comment_begun : (preamble : Bool) (n : ℕ) (text : List ℕ) → n ≤ length text → spells preamble Comment (take n text) ≡ true → IsBegun preamble Comment n text
comment_begun preamble n text h s =
    let parts = and_parts (first (take n text) == semicolon) (list_all is_no_line_feed (take n text)) s in
    let c = eqb-true (first text) semicolon (first_take (λ c. c == semicolon) n text refl parts.0) in
    (rw c refl, covers is_no_line_feed n text h parts.1)

name_begun : (preamble : Bool) (n : ℕ) (text : List ℕ) → n ≤ length text → spells preamble Name (take n text) ≡ true → IsBegun preamble Name n text
name_begun preamble zero text h s = absurd cc
name_begun preamble (suc n) [] h s = absurd (omega arith)
name_begun preamble (suc n) (c ∷ cs) h s =
    let parts = and_parts (c == percent && is_word_byte (first (take n cs))) (list_all is_word_byte (take n cs)) s in
    let more = and_parts (c == percent) (is_word_byte (first (take n cs))) parts.0 in
    let next = first_take is_word_byte n cs refl more.1 in
    (rw (eqb-true c percent more.0, next) refl, omega (arith, covers is_word_byte n cs (omega arith) parts.1))

location_begun : (preamble : Bool) (n : ℕ) (text : List ℕ) → n ≤ length text → spells preamble Srcloc (take n text) ≡ true → IsBegun preamble Srcloc n text
location_begun preamble zero text h s = absurd cc
location_begun preamble (suc n) [] h s = absurd (omega arith)
location_begun preamble (suc n) (c ∷ cs) h s =
    let parts = and_parts (c == at_sign && is_ascii_hexdigit (first (take n cs))) (list_all is_ascii_hexdigit (take n cs)) s in
    let more = and_parts (c == at_sign) (is_ascii_hexdigit (first (take n cs))) parts.0 in
    let next = first_take is_ascii_hexdigit n cs refl more.1 in
    (rw (eqb-true c at_sign more.0, next) refl, omega (arith, covers is_ascii_hexdigit n cs (omega arith) parts.1))

arrow_begun : (preamble : Bool) (n : ℕ) (text : List ℕ) → n ≤ length text → spells preamble Arrow (take n text) ≡ true → IsBegun preamble Arrow n text
arrow_begun preamble zero text h s = absurd cc
arrow_begun preamble (suc n) [] h s = absurd (omega arith)
arrow_begun preamble (suc zero) (c ∷ cs) h s = absurd (let e = (bytes_eq-Decides (c ∷ []) (codes "->")).0 s in let k : 1 ≡ 2 = ap length e in omega arith)
arrow_begun preamble (suc (suc n)) (c ∷ []) h s = absurd (omega arith)
arrow_begun preamble (suc (suc n)) (c ∷ d ∷ cs) h s =
    let e = (bytes_eq-Decides (c ∷ d ∷ take n cs) (codes "->")).0 s in
    let first_is : c ≡ 45 = ap first e in
    let second_is : d ≡ 62 = ap second e in
    let len : suc (suc (length (take n cs))) ≡ 2 = ap length e in
    (rw (first_is, second_is) refl, omega (arith, len, length_take_le n cs (omega arith)))
  where
    length_take_le : (n : ℕ) (xs : List ℕ) → n ≤ length xs → n ≤ length (take n xs)
    length_take_le zero xs h = omega arith
    length_take_le (suc n) [] h = omega arith
    length_take_le (suc n) (x ∷ xs) h = omega (arith, length_take_le n xs (omega arith))

pub marks_begun : (text : List ℕ) → is_mark (first text) ≡ true → begun text ≡ marks
marks_begun text h = rw (no_letter (first text) h, no_number (first text) (second text) h, h) refl
  where
    no_letter : (c : ℕ) → is_mark c ≡ true → is_letter c ≡ false
    no_letter c h = grind (arith, nat_tests)

    no_number : (c d : ℕ) → is_mark c ≡ true → (is_ascii_digit c || (is_sign c && is_ascii_digit d)) ≡ false
    no_number c d h = grind (arith, nat_tests)

mark_begun : (preamble : Bool) (m n : ℕ) (text : List ℕ) → n ≤ length text → spells preamble (Mark m) (take n text) ≡ true → IsBegun preamble (Mark m) n text
mark_begun preamble m zero text h s = absurd (let parts = and_parts (is_mark m) false s in cc)
mark_begun preamble m (suc n) [] h s = absurd (omega arith)
mark_begun preamble m (suc n) (c ∷ cs) h s =
    let parts = and_parts (is_mark m) (bytes_eq (c ∷ take n cs) (m ∷ [])) s in
    let e = (bytes_eq-Decides (c ∷ take n cs) (m ∷ [])).0 parts.1 in
    let c_is : c ≡ m = ap first e in
    let mark : is_mark c ≡ true = rw c_is parts.0 in
    (marks_begun (c ∷ cs) mark, one n cs (omega arith) (ap length e))
  where
    one : (n : ℕ) (xs : List ℕ) → n ≤ length xs → suc (length (take n xs)) ≡ 1 → suc n ≤ 1
    one zero xs h e = omega arith
    one (suc n) [] h e = absurd (omega arith)
    one (suc n) (x ∷ xs) h e = absurd (omega arith)

pub spelled_begun : (preamble : Bool) (kind : TokenKind) (n : ℕ) (text : List ℕ) → n ≤ length text → spells preamble kind (take n text) ≡ true → IsBegun preamble kind n text
spelled_begun preamble Header n text h s = header_begun preamble n text h s
spelled_begun preamble Comment n text h s = comment_begun preamble n text h s
spelled_begun preamble Name n text h s = name_begun preamble n text h s
spelled_begun preamble Word n text h s = word_begun preamble n text h s
spelled_begun preamble Number n text h s = number_begun preamble n text h s
spelled_begun preamble Srcloc n text h s = location_begun preamble n text h s
spelled_begun preamble Arrow n text h s = arrow_begun preamble n text h s
spelled_begun preamble (Mark m) n text h s = mark_begun preamble m n text h s
