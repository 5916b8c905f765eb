-- The token that is taken is the longest that stands at its place.
use Rattle.std.proofs.Common.{◌≡◌, ℕ, zero, suc, ◌+◌, ◌-◌, ◌≤◌, ◌<◌, Bool, true, false, not, ◌||◌, ◌&&◌, ◌==◌, cond, List, [], ◌∷◌, length, take, drop, Ok, Err, refl, sym, ◌∙◌, ap, subst, arith, inl, inr}
use Rattle.std.proofs.lemmas.Bool.{and_parts, and_from, or_left, eqb-true, eq-eqb, false_from_ne_true, both_ways, cond_both, not-true}
use Rattle.std.proofs.lemmas.Bool.Decides.{nat_tests}
use Rattle.std.proofs.lemmas.List.Sums.{prefix_len-le-length}
use Rattle.std.proofs.lemmas.Slice.Eq.{bytes_eq-Decides}
use Rattle.std.specs.Str.{bytes_eq}
use Rattle.std.specs.Char.{is_ascii_digit, is_ascii_hexdigit}
use Rattle.std.specs.List.{prefix_len, list_all}
use Rattle.clif_lex.specs.declared.spans.TokenKind.{TokenKind}
use Rattle.clif_lex.specs.declared.spans.TokenKind.TheVariants.{Header, Comment, Name, Word, Number, Srcloc, Arrow, Mark}
use Rattle.clif_lex.specs.declared.faults.LexErr.TheVariants.{BadNumber}
use Rattle.clif_lex.specs.Bytes.{percent, minus, semicolon, greater, at_sign, is_no_line_feed, is_letter, is_word_byte, is_sign, is_decimal_byte, is_hex_byte, is_mark, first, second}
use Rattle.clif_lex.specs.Numbers.{is_hex, unsigned, sign_len, number_len, lacks_digits, is_in_range}
use Rattle.clif_lex.specs.Lexing.{begins_number, is_header_word, token, number_at, word_at, token_at}
use Rattle.clif_lex.specs.Spelling.{are_digits, spells, IsLongest, IsNone, is_bad, Stands}
use Rattle.clif_lex.proofs.Spelled.{Class, names, comments, arrows, locations, lone_at, nothing, begun, class_of, reach, word_run, line_run, word_reach, digits_reach, run_passes, run_of_take, take_of_take, word_in_line, words_begun, numbers_begun, marks_begun, spelled_begun}
use Rattle.clif_lex.proofs.Starts.{letter_is_word_byte}

-- what is spelled is of one kind

all_taken : (p : ℕ → Bool) (xs : List ℕ) → list_all p xs ≡ true → take (prefix_len p xs) xs ≡ xs
all_taken p [] all = refl
all_taken p (x ∷ xs) all =
    let parts = and_parts (p x) (list_all p xs) all in
    let s : 1 + prefix_len p xs ≡ suc (prefix_len p xs) = omega arith in
    rw (parts.0, s) (ap (λ ys. x ∷ ys) (all_taken p xs parts.1))

header_or_word : (preamble : Bool) (text : List ℕ) → spells preamble Header text ≡ true → spells preamble Word text ≡ true → ⊥
header_or_word preamble text h w =
    let header = and_parts (preamble && is_header_word (take (word_run text) text)) (list_all is_no_line_feed text) h in
    let word = and_parts (is_letter (first text) && list_all is_word_byte text) (not (preamble && is_header_word text)) w in
    let whole = all_taken is_word_byte text (and_parts (is_letter (first text)) (list_all is_word_byte text) word.0).1 in
    let is : (preamble && is_header_word text) ≡ true = rw whole at header.0 in
    both_ways (preamble && is_header_word text) (not-true (preamble && is_header_word text) word.1) is

same_kind : (preamble : Bool) (kind other : TokenKind) (text : List ℕ) → class_of other ≡ class_of kind → spells preamble kind text ≡ true → spells preamble other text ≡ true → other ≡ kind
same_kind preamble Header Header text e s t = refl
same_kind preamble Header Word text e s t = absurd (header_or_word preamble text s t)
same_kind preamble Word Header text e s t = absurd (header_or_word preamble text t s)
same_kind preamble Word Word text e s t = refl
same_kind preamble Comment Comment text e s t = refl
same_kind preamble Name Name text e s t = refl
same_kind preamble Number Number text e s t = refl
same_kind preamble Srcloc Srcloc text e s t = refl
same_kind preamble Arrow Arrow text e s t = refl
same_kind preamble (Mark m) (Mark n) text e s t =
    let one = (bytes_eq-Decides text (m ∷ [])).0 (and_parts (is_mark m) (bytes_eq text (m ∷ [])) s).1 in
    let two = (bytes_eq-Decides text (n ∷ [])).0 (and_parts (is_mark n) (bytes_eq text (n ∷ [])) t).1 in
    ap (λ c. Mark c) (ap first (sym two ∙ one))
same_kind preamble kind other text e s t = absurd cc

found : (preamble : Bool) (kind : TokenKind) (len : ℕ) (text : List ℕ) → begun text ≡ class_of kind → len ≡ reach preamble (class_of kind) text → len ≤ length text → spells preamble kind (take len text) ≡ true
    → IsLongest preamble kind len text
found preamble kind len text begins reached h s = record {
  within = h;
  spelled = s;
  longest = λ n other inside t.
      let b = spelled_begun preamble other n text inside t in
      let same : class_of other ≡ class_of kind = sym b.0 ∙ begins in
      let bound : n ≤ reach preamble (class_of kind) text = subst (λ (class : Class). n ≤ reach preamble class text) same b.1 in
      omega arith;
  only = λ other t. same_kind preamble kind other (take len text) (sym (spelled_begun preamble other len text h t).0 ∙ begins) s t;
}

pub not_nothing : (kind : TokenKind) → nothing ≡ class_of kind → ⊥
not_nothing Header e = cc
not_nothing Comment e = cc
not_nothing Name e = cc
not_nothing Word e = cc
not_nothing Number e = cc
not_nothing Srcloc e = cc
not_nothing Arrow e = cc
not_nothing (Mark c) e = cc

not_lone_at : (kind : TokenKind) → lone_at ≡ class_of kind → ⊥
not_lone_at Header e = cc
not_lone_at Comment e = cc
not_lone_at Name e = cc
not_lone_at Word e = cc
not_lone_at Number e = cc
not_lone_at Srcloc e = cc
not_lone_at Arrow e = cc
not_lone_at (Mark c) e = cc

none : (preamble : Bool) (text : List ℕ) → begun text ≡ nothing → IsNone preamble text
none preamble text begins = λ n kind inside. false_from_ne_true (spells preamble kind (take n text)) (λ t. not_nothing kind (sym begins ∙ (spelled_begun preamble kind n text inside t).0))

none_at : (preamble : Bool) (text : List ℕ) → begun text ≡ lone_at → IsNone preamble text
none_at preamble text begins = λ n kind inside. false_from_ne_true (spells preamble kind (take n text)) (λ t. not_lone_at kind (sym begins ∙ (spelled_begun preamble kind n text inside t).0))

-- a token takes a byte
some : (preamble : Bool) (kind : TokenKind) (len : ℕ) (text : List ℕ) → spells preamble kind (take len text) ≡ true → 0 < len
some preamble kind zero text s = absurd (not_nothing kind (spelled_begun preamble kind zero [] (omega arith) s).0)
some preamble kind (suc n) text s = omega arith

token_stands : (preamble : Bool) (at : ℕ) (kind : TokenKind) (len : ℕ) (text : List ℕ) → IsLongest preamble kind len text → (kind ≡ Number → is_bad len text ≡ false) → Stands preamble at text (Ok (token kind at len))
token_stands preamble at kind len text longest good =
    let e : at + len - at ≡ len = omega arith in
    let positive = some preamble kind len text longest.spelled in
    (refl, omega arith, rw e longest, rw e good)

-- words

first_run : (p : ℕ → Bool) (c : ℕ) (cs : List ℕ) → p c ≡ true → first (take (prefix_len p (c ∷ cs)) (c ∷ cs)) ≡ c
first_run p c cs h =
    let s : 1 + prefix_len p cs ≡ suc (prefix_len p cs) = omega arith in
    rw (h, s) refl

word_stands : (preamble : Bool) (at : ℕ) (text : List ℕ) → is_letter (first text) ≡ true → Stands preamble at text (Ok (word_at preamble at text))
unfolding word_at
word_stands preamble at [] h = absurd cc
word_stands preamble at (c ∷ cs) h = go (preamble && is_header_word (take (word_run (c ∷ cs)) (c ∷ cs))) refl
  where
    go : (b : Bool) → (preamble && is_header_word (take (word_run (c ∷ cs)) (c ∷ cs))) ≡ b
        → Stands preamble at (c ∷ cs) (Ok (cond b (token Header at (line_run (c ∷ cs))) (token Word at (word_run (c ∷ cs)))))
    go true e =
        let parts = and_parts preamble (is_header_word (take (word_run (c ∷ cs)) (c ∷ cs))) e in
        let shorter = word_in_line (c ∷ cs) in
        let s : spells preamble Header (take (line_run (c ∷ cs)) (c ∷ cs)) ≡ true =
        rw (run_of_take is_word_byte (line_run (c ∷ cs)) (c ∷ cs) shorter, take_of_take (word_run (c ∷ cs)) (line_run (c ∷ cs)) (c ∷ cs) shorter)
        (and_from (preamble && is_header_word (take (word_run (c ∷ cs)) (c ∷ cs))) (list_all is_no_line_feed (take (line_run (c ∷ cs)) (c ∷ cs))) e (run_passes is_no_line_feed (c ∷ cs))) in
        let reached : line_run (c ∷ cs) ≡ word_reach preamble (c ∷ cs) = sym (ap (λ b. cond b (line_run (c ∷ cs)) (word_run (c ∷ cs))) e) in
        token_stands preamble at Header (line_run (c ∷ cs)) (c ∷ cs)
        (found preamble Header (line_run (c ∷ cs)) (c ∷ cs) (words_begun (c ∷ cs) h) reached (prefix_len-le-length is_no_line_feed (c ∷ cs)) s) (λ e. absurd cc)
    go false e =
        let letter : is_letter (first (take (word_run (c ∷ cs)) (c ∷ cs))) ≡ true = rw (first_run is_word_byte c cs (letter_is_word_byte c h)) h in
        let s : spells preamble Word (take (word_run (c ∷ cs)) (c ∷ cs)) ≡ true = rw (letter, run_passes is_word_byte (c ∷ cs), e) refl in
        let reached : word_run (c ∷ cs) ≡ word_reach preamble (c ∷ cs) = sym (ap (λ b. cond b (line_run (c ∷ cs)) (word_run (c ∷ cs))) e) in
        token_stands preamble at Word (word_run (c ∷ cs)) (c ∷ cs)
        (found preamble Word (word_run (c ∷ cs)) (c ∷ cs) (words_begun (c ∷ cs) h) reached (prefix_len-le-length is_word_byte (c ∷ cs)) s) (λ e. absurd cc)

-- numbers

abbrev HasDigits : List ℕ → Type 0
HasDigits text = (are_digits (take (digits_reach text) text) ≡ true) × (digits_reach text ≤ length text) × (first (take (digits_reach text) text) ≡ first text)

decimal_digits : (c : ℕ) (cs : List ℕ) → is_ascii_digit c ≡ true → is_hex (c ∷ cs) ≡ false → HasDigits (c ∷ cs)
decimal_digits c cs h e =
    let R = prefix_len is_decimal_byte (c ∷ cs) in
    let decimal : is_decimal_byte c ≡ true = or_left (is_ascii_digit c) (c == 95) h in
    let front = first_run is_decimal_byte c cs decimal in
    let reached : digits_reach (c ∷ cs) ≡ R = ap (λ b. cond b (cond (is_ascii_hexdigit (first (drop 2 (c ∷ cs)))) (2 + prefix_len is_hex_byte (drop 2 (c ∷ cs))) 1) R) e in
    let digit : is_ascii_digit (first (take R (c ∷ cs))) ≡ true = rw front h in
    let are : are_digits (take R (c ∷ cs)) ≡ true =
    or_left (is_ascii_digit (first (take R (c ∷ cs))) && list_all is_decimal_byte (take R (c ∷ cs)))
    (is_hex (take R (c ∷ cs)) && is_ascii_hexdigit (first (drop 2 (take R (c ∷ cs)))) && list_all is_hex_byte (drop 2 (take R (c ∷ cs))))
    (and_from (is_ascii_digit (first (take R (c ∷ cs)))) (list_all is_decimal_byte (take R (c ∷ cs))) digit (run_passes is_decimal_byte (c ∷ cs))) in
    subst (λ n. (are_digits (take n (c ∷ cs)) ≡ true) × (n ≤ length (c ∷ cs)) × (first (take n (c ∷ cs)) ≡ c)) (sym reached) (are, prefix_len-le-length is_decimal_byte (c ∷ cs), front)

hex_digit_is_hex_byte : (c : ℕ) → is_ascii_hexdigit c ≡ true → is_hex_byte c ≡ true
hex_digit_is_hex_byte c h = or_left (is_ascii_hexdigit c) (c == 95) h

hex_digits : (cs : List ℕ) → HasDigits (48 ∷ 120 ∷ cs)
hex_digits [] = (refl, omega arith, refl)
hex_digits (d ∷ ds) = go (is_ascii_hexdigit d) refl
  where
    k : ℕ
    k = prefix_len is_hex_byte (d ∷ ds)

    two : 2 + k ≡ suc (suc k)
    two = omega arith

    go : (b : Bool) → is_ascii_hexdigit d ≡ b
        → (are_digits (take (cond b (2 + prefix_len is_hex_byte (d ∷ ds)) 1) (48 ∷ 120 ∷ d ∷ ds)) ≡ true)
        × (cond b (2 + prefix_len is_hex_byte (d ∷ ds)) 1 ≤ length (48 ∷ 120 ∷ d ∷ ds))
        × (first (take (cond b (2 + prefix_len is_hex_byte (d ∷ ds)) 1) (48 ∷ 120 ∷ d ∷ ds)) ≡ 48)
    go true e =
        let s : 2 + prefix_len is_hex_byte (d ∷ ds) ≡ suc (suc (prefix_len is_hex_byte (d ∷ ds))) = omega arith in
        let front = first_run is_hex_byte d ds (hex_digit_is_hex_byte d e) in
        let digit : is_ascii_hexdigit (first (take (prefix_len is_hex_byte (d ∷ ds)) (d ∷ ds))) ≡ true = rw front e in
        let inside = prefix_len-le-length is_hex_byte (d ∷ ds) in
        (rw (s, digit, run_passes is_hex_byte (d ∷ ds)) refl, omega arith, rw s refl)
    go false e = (refl, omega arith, refl)

digits_are : (text : List ℕ) → is_ascii_digit (first text) ≡ true → HasDigits text
digits_are [] h = absurd cc
digits_are (c ∷ cs) h = go (is_hex (c ∷ cs)) refl
  where
    hexed : (cs : List ℕ) → c ≡ 48 → first cs == 120 ≡ true → HasDigits (c ∷ cs)
    hexed [] e f = absurd cc
    hexed (d ∷ ds) e f = rw (e, eqb-true d 120 f) (hex_digits ds)

    go : (b : Bool) → is_hex (c ∷ cs) ≡ b → HasDigits (c ∷ cs)
    go true e = let parts = and_parts (c == 48) (first cs == 120) e in hexed cs (eqb-true c 48 parts.0) parts.1
    go false e = decimal_digits c cs h e

pub sign_no_digit : (c : ℕ) → is_sign c ≡ true → is_ascii_digit c ≡ false
sign_no_digit c h = grind (arith, nat_tests)

pub digit_no_sign : (c : ℕ) → is_ascii_digit c ≡ true → is_sign c ≡ false
digit_no_sign c h = grind (arith, nat_tests)

only_left : (a b : Bool) → (a || (false && b)) ≡ true → a ≡ true
only_left true b h = refl
only_left false b h = h

only_right : (a b : Bool) → a ≡ false → (a || b) ≡ true → b ≡ true
only_right false b e h = h
only_right true b e h = absurd cc

-- the number that begins a text, with its digits as far as they reach
number_longest : (preamble : Bool) (text : List ℕ) → begins_number text ≡ true → IsLongest preamble Number (sign_len text + digits_reach (unsigned text)) text
number_longest preamble [] h = absurd cc
number_longest preamble (c ∷ cs) h = go (is_sign c) refl
  where
    whole : (len : ℕ) → len ≡ sign_len (c ∷ cs) + digits_reach (unsigned (c ∷ cs)) → len ≤ suc (length cs) → are_digits (unsigned (take len (c ∷ cs))) ≡ true
        → IsLongest preamble Number (sign_len (c ∷ cs) + digits_reach (unsigned (c ∷ cs))) (c ∷ cs)
    whole len e inside are = subst (λ n. IsLongest preamble Number n (c ∷ cs)) e (found preamble Number len (c ∷ cs) (numbers_begun (c ∷ cs) h) e inside are)

    go : (b : Bool) → is_sign c ≡ b → IsLongest preamble Number (sign_len (c ∷ cs) + digits_reach (unsigned (c ∷ cs))) (c ∷ cs)
    go true e =
        let digit = (and_parts (is_sign c) (is_ascii_digit (first cs)) (only_right (is_ascii_digit c) (is_sign c && is_ascii_digit (first cs)) (sign_no_digit c e) h)).1 in
        let digits = digits_are cs digit in
        let reached : suc (digits_reach cs) ≡ sign_len (c ∷ cs) + digits_reach (unsigned (c ∷ cs)) = rw e (omega arith) in
        let are : are_digits (unsigned (c ∷ take (digits_reach cs) cs)) ≡ true = rw e digits.0 in
        whole (suc (digits_reach cs)) reached (omega (arith, digits.1)) are
    go false e =
        let digit = only_left (is_ascii_digit c) (is_ascii_digit (first cs)) (let g : (is_ascii_digit c || (false && is_ascii_digit (first cs))) ≡ true = rw e at h in g) in
        let digits = digits_are (c ∷ cs) digit in
        let reached : digits_reach (c ∷ cs) ≡ sign_len (c ∷ cs) + digits_reach (unsigned (c ∷ cs)) = rw e (omega arith) in
        let front : is_sign (first (take (digits_reach (c ∷ cs)) (c ∷ cs))) ≡ false = rw digits.2 e in
        let are : are_digits (unsigned (take (digits_reach (c ∷ cs)) (c ∷ cs))) ≡ true = rw front digits.0 in
        whole (digits_reach (c ∷ cs)) reached digits.1 are

-- with digits after its `0x`, or without one
reach_with : (text : List ℕ) → lacks_digits text ≡ false → sign_len text + digits_reach (unsigned text) ≡ number_len text
reach_with text h = go (is_hex (unsigned text)) (is_ascii_hexdigit (first (drop 2 (unsigned text)))) h
  where
    m : ℕ
    m = 2 + prefix_len is_hex_byte (drop 2 (unsigned text))

    go : (b d : Bool) → (b && not d) ≡ false
        → sign_len text + cond b (cond d (2 + prefix_len is_hex_byte (drop 2 (unsigned text))) 1) (prefix_len is_decimal_byte (unsigned text))
        ≡ sign_len text + cond b (2 + prefix_len is_hex_byte (drop 2 (unsigned text))) (prefix_len is_decimal_byte (unsigned text))
    go true true e = refl
    go true false e = absurd cc
    go false d e = refl

reach_without : (text : List ℕ) → lacks_digits text ≡ true → sign_len text + digits_reach (unsigned text) ≡ sign_len text + 1
reach_without text h =
    let parts = and_parts (is_hex (unsigned text)) (not (is_ascii_hexdigit (first (drop 2 (unsigned text))))) h in
    rw (parts.0, not-true (is_ascii_hexdigit (first (drop 2 (unsigned text)))) parts.1) refl

-- behind a `0` that stands alone comes the `x`
letter_behind : (text : List ℕ) → lacks_digits text ≡ true → is_letter (first (drop (sign_len text + 1) text)) ≡ true
letter_behind text h =
    let parts = and_parts (is_hex (unsigned text)) (not (is_ascii_hexdigit (first (drop 2 (unsigned text))))) h in
    let x = eqb-true (second (unsigned text)) 120 (and_parts (first (unsigned text) == 48) (second (unsigned text) == 120) parts.0).1 in
    let e : first (drop (sign_len text + 1) text) ≡ 120 = next (sign_len text) text ∙ x in
    rw e refl
  where
    next : (n : ℕ) (xs : List ℕ) → first (drop (n + 1) xs) ≡ second (drop n xs)
    next zero [] = refl
    next zero (x ∷ xs) = refl
    next (suc n) [] = let s : suc n + 1 ≡ suc (n + 1) = omega arith in rw s refl
    next (suc n) (x ∷ xs) = let s : suc n + 1 ≡ suc (n + 1) = omega arith in rw s (next n xs)

number_stands : (preamble : Bool) (at : ℕ) (text : List ℕ) → begins_number text ≡ true → Stands preamble at text (number_at at text)
unfolding number_at
number_stands preamble at text h = lacks (lacks_digits text) refl
  where
    longest : IsLongest preamble Number (sign_len text + digits_reach (unsigned text)) text
    longest = number_longest preamble text h

    good : (len : ℕ) → IsLongest preamble Number len text → (b : Bool) → is_bad len text ≡ b → Stands preamble at text (cond b (Err (BadNumber at)) (Ok (token Number at len)))
    good len l true e = (refl, inr (len, l, e))
    good len l false e = token_stands preamble at Number len text l (λ k. e)

    lacks : (b : Bool) → lacks_digits text ≡ b
        → Stands preamble at text (cond ((b || is_letter (first (drop (number_len text) text))) || not (is_in_range (take (number_len text) text))) (Err (BadNumber at)) (Ok (token Number at (number_len text))))
    lacks true e =
        let l : IsLongest preamble Number (sign_len text + 1) text = rw (reach_without text e) at longest in
        (refl, inr (sign_len text + 1, l, or_left (is_letter (first (drop (sign_len text + 1) text))) (not (is_in_range (take (sign_len text + 1) text))) (letter_behind text e)))
    lacks false e =
        let l : IsLongest preamble Number (number_len text) text = rw (reach_with text e) at longest in
        good (number_len text) l (is_bad (number_len text) text) refl

-- the other kinds

mark_stands : (preamble : Bool) (at : ℕ) (text : List ℕ) → is_mark (first text) ≡ true → Stands preamble at text (Ok (token (Mark (first text)) at 1))
mark_stands preamble at [] h = absurd cc
mark_stands preamble at (c ∷ cs) h =
    let s : spells preamble (Mark c) (c ∷ []) ≡ true = and_from (is_mark c) (bytes_eq (c ∷ []) (c ∷ [])) h ((bytes_eq-Decides (c ∷ []) (c ∷ [])).1 refl) in
    token_stands preamble at (Mark c) 1 (c ∷ cs) (found preamble (Mark c) 1 (c ∷ cs) (marks_begun (c ∷ cs) h) refl (omega arith) s) (λ e. absurd cc)

name_stands : (preamble : Bool) (at : ℕ) (text : List ℕ) → (first text == percent && is_word_byte (second text)) ≡ true → Stands preamble at text (Ok (token Name at (1 + prefix_len is_word_byte (drop 1 text))))
name_stands preamble at [] h = absurd cc
name_stands preamble at (c ∷ []) h = absurd (let parts = and_parts (c == percent) false h in cc)
name_stands preamble at (c ∷ d ∷ cs) h =
    let parts = and_parts (c == percent) (is_word_byte d) h in
    let c_is = eqb-true c percent parts.0 in
    let k = prefix_len is_word_byte (d ∷ cs) in
    let one : 1 + prefix_len is_word_byte (d ∷ cs) ≡ suc (prefix_len is_word_byte (d ∷ cs)) = omega arith in
    let next : is_word_byte (first (take (prefix_len is_word_byte (d ∷ cs)) (d ∷ cs))) ≡ true = rw (first_run is_word_byte d cs parts.1) parts.1 in
    let s : spells preamble Name (take (1 + prefix_len is_word_byte (d ∷ cs)) (c ∷ d ∷ cs)) ≡ true = rw (one, parts.0, next, run_passes is_word_byte (d ∷ cs)) refl in
    let begins : begun (c ∷ d ∷ cs) ≡ names = rw (c_is, parts.1) refl in
    let inside = prefix_len-le-length is_word_byte (d ∷ cs) in
    token_stands preamble at Name (1 + prefix_len is_word_byte (d ∷ cs)) (c ∷ d ∷ cs) (found preamble Name (1 + prefix_len is_word_byte (d ∷ cs)) (c ∷ d ∷ cs) begins refl (omega arith) s) (λ e. absurd cc)

comment_stands : (preamble : Bool) (at : ℕ) (text : List ℕ) → (first text == semicolon) ≡ true → Stands preamble at text (Ok (token Comment at (prefix_len is_no_line_feed text)))
comment_stands preamble at [] h = absurd cc
comment_stands preamble at (c ∷ cs) h =
    let c_is = eqb-true c semicolon h in
    let within_line : is_no_line_feed c ≡ true = rw c_is refl in
    let front : (first (take (line_run (c ∷ cs)) (c ∷ cs)) == semicolon) ≡ true = rw (first_run is_no_line_feed c cs within_line) h in
    let s : spells preamble Comment (take (line_run (c ∷ cs)) (c ∷ cs)) ≡ true = rw (front, run_passes is_no_line_feed (c ∷ cs)) refl in
    let begins : begun (c ∷ cs) ≡ comments = rw c_is refl in
    token_stands preamble at Comment (line_run (c ∷ cs)) (c ∷ cs) (found preamble Comment (line_run (c ∷ cs)) (c ∷ cs) begins refl (prefix_len-le-length is_no_line_feed (c ∷ cs)) s) (λ e. absurd cc)

arrow_stands : (preamble : Bool) (at : ℕ) (text : List ℕ) → (first text == minus && second text == greater) ≡ true → Stands preamble at text (Ok (token Arrow at 2))
arrow_stands preamble at [] h = absurd cc
arrow_stands preamble at (c ∷ []) h = absurd (let e : false ≡ true = (and_parts (c == minus) (0 == greater) h).1 in cc)
arrow_stands preamble at (c ∷ d ∷ cs) h =
    let parts = and_parts (c == minus) (d == greater) h in
    let c_is = eqb-true c minus parts.0 in
    let d_is = eqb-true d greater parts.1 in
    let s : spells preamble Arrow (c ∷ d ∷ []) ≡ true = rw (c_is, d_is) refl in
    let begins : begun (c ∷ d ∷ cs) ≡ arrows = rw (c_is, d_is) refl in
    token_stands preamble at Arrow 2 (c ∷ d ∷ cs) (found preamble Arrow 2 (c ∷ d ∷ cs) begins refl (omega arith) s) (λ e. absurd cc)

location_stands : (preamble : Bool) (at : ℕ) (text : List ℕ) → (first text == at_sign) ≡ true
    → Stands preamble at text (cond (is_ascii_hexdigit (second text)) (Ok (token Srcloc at (1 + prefix_len is_ascii_hexdigit (drop 1 text)))) (Err (BadNumber at)))
location_stands preamble at [] h = absurd cc
location_stands preamble at (c ∷ cs) h = go (is_ascii_hexdigit (first cs)) refl
  where
    c_is : c ≡ at_sign
    c_is = eqb-true c at_sign h

    with_digits : (xs : List ℕ) → is_ascii_hexdigit (first xs) ≡ true → Stands preamble at (c ∷ xs) (Ok (token Srcloc at (1 + prefix_len is_ascii_hexdigit xs)))
    with_digits [] e = absurd cc
    with_digits (d ∷ ds) e =
        let one : 1 + prefix_len is_ascii_hexdigit (d ∷ ds) ≡ suc (prefix_len is_ascii_hexdigit (d ∷ ds)) = omega arith in
        let next : is_ascii_hexdigit (first (take (prefix_len is_ascii_hexdigit (d ∷ ds)) (d ∷ ds))) ≡ true = rw (first_run is_ascii_hexdigit d ds e) e in
        let s : spells preamble Srcloc (take (1 + prefix_len is_ascii_hexdigit (d ∷ ds)) (c ∷ d ∷ ds)) ≡ true = rw (one, h, next, run_passes is_ascii_hexdigit (d ∷ ds)) refl in
        let begins : begun (c ∷ d ∷ ds) ≡ locations = rw (c_is, e) refl in
        let inside = prefix_len-le-length is_ascii_hexdigit (d ∷ ds) in
        token_stands preamble at Srcloc (1 + prefix_len is_ascii_hexdigit (d ∷ ds)) (c ∷ d ∷ ds)
        (found preamble Srcloc (1 + prefix_len is_ascii_hexdigit (d ∷ ds)) (c ∷ d ∷ ds) begins refl (omega arith) s) (λ e. absurd cc)

    go : (b : Bool) → is_ascii_hexdigit (first cs) ≡ b
        → Stands preamble at (c ∷ cs) (cond b (Ok (token Srcloc at (1 + prefix_len is_ascii_hexdigit cs))) (Err (BadNumber at)))
    go true e = with_digits cs e
    go false e =
        let begins : begun (c ∷ cs) ≡ lone_at = rw (c_is, e) refl in
        (refl, inl (c_is, none_at preamble (c ∷ cs) begins))

-- what stands at the front of a text
pub stands : (preamble : Bool) (at : ℕ) (text : List ℕ) → Stands preamble at text (token_at preamble at text)
unfolding token_at
stands preamble at text =
    let P = Stands preamble at text in
    cond_both (is_letter (first text)) _ _ P (λ e. word_stands preamble at text e) (λ no_word.
    cond_both (begins_number text) _ _ P (λ e. number_stands preamble at text e) (λ no_number.
    cond_both (is_mark (first text)) _ _ P (λ e. mark_stands preamble at text e) (λ no_mark.
    cond_both (first text == percent && is_word_byte (second text)) _ _ P (λ e. name_stands preamble at text e) (λ no_name.
    cond_both (first text == semicolon) _ _ P (λ e. comment_stands preamble at text e) (λ no_comment.
    cond_both (first text == minus && second text == greater) _ _ P (λ e. arrow_stands preamble at text e) (λ no_arrow.
    cond_both (first text == at_sign) _ _ P (λ e. location_stands preamble at text e) (λ no_location.
    let begins : begun text ≡ nothing = rw (no_word, no_number, no_mark, no_name, no_comment, no_arrow, no_location) refl in
    (refl, none preamble text begins, λ e. both_ways (first text == at_sign) no_location (eq-eqb (first text) at_sign e)))))))))
