-- The number that begins a text: digits, with a sign or without.
use Rattle.std.proofs.Common.{◌≡◌, ℕ, suc, ◌+◌, ◌^◌, ◌<◌, ◌≤◌, ◌==◌, Bool, true, false, List, [], ◌∷◌, ◌++◌, length, take, drop, Ok, refl, sym, ap, ◌∙◌, arith}
use Rattle.std.specs.Prelude.{nat_lt, nat_le, ℤ, pos, negsuc, neg_ℤ}
use Rattle.std.specs.List.{list_all}
use Rattle.std.specs.Char.{is_ascii_digit}
use Rattle.std.specs.Fmt.{decimal, signed_decimal}
use Rattle.std.proofs.lemmas.List.{take_at, drop_at, append-nil}
use Rattle.std.proofs.lemmas.Bool.{and_parts}
use Rattle.std.proofs.lemmas.Bool.Decides.{nat_tests}
use Rattle.std.proofs.Math.Bool.{and-false}
use Rattle.clif_lex.specs.declared.spans.TokenKind.TheVariants.{Number}
use Rattle.clif_lex.specs.Bytes.{is_blank, is_letter, is_word_byte, is_decimal_byte, is_sign, first}
use Rattle.clif_lex.specs.Numbers.{amount, unsigned, magnitude, is_hex, is_in_range, spelled_number, digits_len, number_len, lacks_digits}
use Rattle.clif_lex.specs.Lexing.{◌>>=◌, begins_number, token, token_at, number_at, tokens_from}
use Rattle.clif_lex.proofs.Spelled.{digit_no_letter, sign_no_letter}
use Rattle.clif_lex.proofs.Longest.{digit_no_sign, sign_no_digit}
use Rattle.ir_text.specs.TextTree.{with_sign}
use Rattle.text_read_back.proofs.Decimals.{decimal_digits, decimal_some, decimal_amount}
use Rattle.text_read_back.proofs.Fronts.{run_is, first_of, no_letter, no_decimal, all_wider, token_then}

digit_no_blank : (c : ℕ) → is_ascii_digit c ≡ true → is_blank c ≡ false
digit_no_blank c h = grind (arith, nat_tests)

digit_no_minus : (c : ℕ) → is_ascii_digit c ≡ true → (c == 45) ≡ false
digit_no_minus c h = grind (arith, nat_tests)

digit_no_plus : (c : ℕ) → is_ascii_digit c ≡ true → (c == 43) ≡ false
digit_no_plus c h = grind (arith, nat_tests)

digit_no_x : (c : ℕ) → is_ascii_digit c ≡ true → (c == 120) ≡ false
digit_no_x c h = grind (arith, nat_tests)

letter_no_x : (c : ℕ) → is_letter c ≡ false → (c == 120) ≡ false
letter_no_x c h = grind (arith, nat_tests)

digit_decimal : (c : ℕ) → is_ascii_digit c ≡ true → is_decimal_byte c ≡ true
digit_decimal c h = grind (arith, nat_tests)

sign_no_blank : (c : ℕ) → is_sign c ≡ true → is_blank c ≡ false
sign_no_blank c h = grind (arith, nat_tests)

-- digits alone, at least one
pub record AreDigits (ds : List ℕ) : Type 0 where
  pub all : list_all is_ascii_digit ds ≡ true
  pub some : 1 ≤ length ds

pub first_digit : (ds : List ℕ) → AreDigits ds → is_ascii_digit (first ds) ≡ true
first_digit [] h = absurd (let k = h.some in omega arith)
first_digit (d ∷ ds) h = (and_parts (is_ascii_digit d) (list_all is_ascii_digit ds) h.all).0

no_hex : (ds rest : List ℕ) → AreDigits ds → is_letter (first rest) ≡ false → is_hex (ds ++ rest) ≡ false
no_hex [] rest h e = absurd (let k = h.some in omega arith)
no_hex (d ∷ []) rest h e = rw (letter_no_x (first rest) e) (and-false (d == 48))
no_hex (d ∷ c ∷ ds) rest h e =
    let a = and_parts (is_ascii_digit d) (list_all is_ascii_digit (c ∷ ds)) h.all in
    let b = and_parts (is_ascii_digit c) (list_all is_ascii_digit ds) a.1 in
    rw (digit_no_x c b.0) (and-false (d == 48))

no_hex_alone : (ds : List ℕ) → AreDigits ds → is_hex ds ≡ false
no_hex_alone ds h = ap is_hex (sym (append-nil ds)) ∙ no_hex ds [] h refl

digits_then : (ds rest : List ℕ) → AreDigits ds → is_word_byte (first rest) ≡ false → digits_len (ds ++ rest) ≡ length ds
digits_then ds rest h e =
    rw (no_hex ds rest h (no_letter (first rest) e)) (run_is is_decimal_byte ds rest (all_wider is_ascii_digit is_decimal_byte digit_decimal ds h.all) (no_decimal (first rest) e))

pub digits_magnitude : (ds : List ℕ) → AreDigits ds → magnitude ds ≡ amount 10 ds
digits_magnitude ds h = rw (no_hex_alone ds h) refl

-- a text without a sign in front
plain_unsigned : (text : List ℕ) → is_sign (first text) ≡ false → unsigned text ≡ text
plain_unsigned text h = rw h refl

number_here : (preamble : Bool) (at : ℕ) (text w : List ℕ) → is_letter (first text) ≡ false → begins_number text ≡ true → number_len text ≡ length w → take (length w) text ≡ w
    → lacks_digits text ≡ false → is_letter (first (drop (length w) text)) ≡ false → is_in_range w ≡ true → token_at preamble at text ≡ Ok (token Number at (length w))
unfolding token_at number_at
number_here preamble at text w l b len t x d r = rw (l, b, len, x, d, t, r) refl

-- without a sign
pub unsigned_then : (preamble : Bool) (at : ℕ) (ds rest : List ℕ) → AreDigits ds → nat_lt (amount 10 ds) (2 ^ 64) ≡ true → is_word_byte (first rest) ≡ false
    → tokens_from preamble 0 at (ds ++ rest) ≡ (tokens_from false 0 (at + length ds) rest >>= λ ts. Ok (token Number at (length ds) ∷ ts))
unsigned_then preamble at ds rest h small e =
    let f = first_digit ds h in
    let g : is_ascii_digit (first (ds ++ rest)) ≡ true = ap is_ascii_digit (first_of ds rest h.some) ∙ f in
    let l = digit_no_letter (first (ds ++ rest)) g in
    let s = digit_no_sign (first (ds ++ rest)) g in
    let b : begins_number (ds ++ rest) ≡ true = rw g refl in
    let u : unsigned (ds ++ rest) ≡ ds ++ rest = plain_unsigned (ds ++ rest) s in
    let len : number_len (ds ++ rest) ≡ length ds = rw s (let k = digits_then ds rest h e in omega arith) in
    let x = no_hex ds rest h (no_letter (first rest) e) in
    let lacks : lacks_digits (ds ++ rest) ≡ false = rw (s, x) refl in
    let d : is_letter (first (drop (length ds) (ds ++ rest))) ≡ false = ap (λ (r : List ℕ). is_letter (first r)) (drop_at ds rest (length ds) refl) ∙ no_letter (first rest) e in
    let r : is_in_range ds ≡ true = rw (digit_no_minus (first ds) f, digit_no_plus (first ds) f, no_hex_alone ds h) small in
    token_then preamble at Number ds rest h.some (digit_no_blank (first ds) f) refl
    (number_here preamble at (ds ++ rest) ds l b len (take_at ds rest (length ds) refl) lacks d r)

-- with a sign
pub signed_then : (preamble : Bool) (at c : ℕ) (ds rest : List ℕ) → is_sign c ≡ true → AreDigits ds → is_in_range (c ∷ ds) ≡ true → is_word_byte (first rest) ≡ false
    → tokens_from preamble 0 at (c ∷ (ds ++ rest)) ≡ (tokens_from false 0 (at + suc (length ds)) rest >>= λ ts. Ok (token Number at (suc (length ds)) ∷ ts))
signed_then preamble at c ds rest sign h range e =
    let f = first_digit ds h in
    let g : is_ascii_digit (first (ds ++ rest)) ≡ true = ap is_ascii_digit (first_of ds rest h.some) ∙ f in
    let b : begins_number (c ∷ (ds ++ rest)) ≡ true = rw (sign_no_digit c sign, sign, g) refl in
    let len : number_len (c ∷ (ds ++ rest)) ≡ suc (length ds) = rw sign (let k = digits_then ds rest h e in omega arith) in
    let x = no_hex ds rest h (no_letter (first rest) e) in
    let lacks : lacks_digits (c ∷ (ds ++ rest)) ≡ false = rw (sign, x) refl in
    let d : is_letter (first (drop (length ds) (ds ++ rest))) ≡ false = ap (λ (r : List ℕ). is_letter (first r)) (drop_at ds rest (length ds) refl) ∙ no_letter (first rest) e in
    token_then preamble at Number (c ∷ ds) rest (omega arith) (sign_no_blank c sign) refl
    (number_here preamble at (c ∷ (ds ++ rest)) (c ∷ ds) (sign_no_letter c sign) b len (take_at (c ∷ ds) rest (suc (length ds)) refl) lacks d range)

-- ---- what they spell

pub decimal_are_digits : (n : ℕ) → n < 2 ^ 64 → AreDigits (decimal n)
decimal_are_digits n h = record { all = decimal_digits n h; some = decimal_some n h }

pub decimal_magnitude : (n : ℕ) → n < 2 ^ 64 → magnitude (decimal n) ≡ n
decimal_magnitude n h = digits_magnitude (decimal n) (decimal_are_digits n h) ∙ decimal_amount n h

-- whether a number is one of 64 bits, signed or unsigned
abbrev pub is_64_bits : ℤ → Bool
is_64_bits (pos n) = nat_lt n (2 ^ 64)
is_64_bits (negsuc n) = nat_lt n (2 ^ 63)

pub below : (n : ℕ) → nat_lt n (2 ^ 64) ≡ true → n < 2 ^ 64
below n h = grind (arith, nat_tests)

pub below_minus : (n : ℕ) → nat_lt n (2 ^ 63) ≡ true → suc n < 2 ^ 64
below_minus n h = grind (arith, nat_tests)

spelled_plain : (ds : List ℕ) → AreDigits ds → spelled_number ds ≡ pos (magnitude ds)
spelled_plain ds h =
    let f = first_digit ds h in
    rw (digit_no_minus (first ds) f, digit_no_plus (first ds) f) refl

pub signed_spells : (z : ℤ) → is_64_bits z ≡ true → spelled_number (signed_decimal z) ≡ z
signed_spells (pos n) h =
    let s = below n h in
    spelled_plain (decimal n) (decimal_are_digits n s) ∙ ap (λ (k : ℕ). pos k) (decimal_magnitude n s)
signed_spells (negsuc n) h = ap (λ (k : ℕ). neg_ℤ (pos k)) (decimal_magnitude (suc n) (below_minus n h))

minus_range : (n : ℕ) → nat_lt n (2 ^ 63) ≡ true → is_in_range (45 ∷ decimal (suc n)) ≡ true
minus_range n h = rw (decimal_magnitude (suc n) (below_minus n h)) (let k : nat_le (suc n) (2 ^ 63) ≡ true = grind (arith, nat_tests) in k)

plus_range : (n : ℕ) → nat_lt n (2 ^ 64) ≡ true → is_in_range (43 ∷ decimal n) ≡ true
plus_range n h = rw (decimal_magnitude n (below n h)) h

pub number_then : (preamble : Bool) (at n : ℕ) (rest : List ℕ) → nat_lt n (2 ^ 64) ≡ true → is_word_byte (first rest) ≡ false
    → tokens_from preamble 0 at (decimal n ++ rest) ≡ (tokens_from false 0 (at + length (decimal n)) rest >>= λ ts. Ok (token Number at (length (decimal n)) ∷ ts))
number_then preamble at n rest h e =
    let s = below n h in
    unsigned_then preamble at (decimal n) rest (decimal_are_digits n s) (rw (decimal_amount n s) h) e

pub signed_number_then : (preamble : Bool) (at : ℕ) (z : ℤ) (rest : List ℕ) → is_64_bits z ≡ true → is_word_byte (first rest) ≡ false
    → tokens_from preamble 0 at (signed_decimal z ++ rest) ≡ (tokens_from false 0 (at + length (signed_decimal z)) rest >>= λ ts. Ok (token Number at (length (signed_decimal z)) ∷ ts))
signed_number_then preamble at (pos n) rest h e = number_then preamble at n rest h e
signed_number_then preamble at (negsuc n) rest h e = signed_then preamble at 45 (decimal (suc n)) rest refl (decimal_are_digits (suc n) (below_minus n h)) (minus_range n h) e

pub offset_then : (preamble : Bool) (at : ℕ) (z : ℤ) (rest : List ℕ) → is_64_bits z ≡ true → is_word_byte (first rest) ≡ false
    → tokens_from preamble 0 at (with_sign z ++ rest) ≡ (tokens_from false 0 (at + length (with_sign z)) rest >>= λ ts. Ok (token Number at (length (with_sign z)) ∷ ts))
offset_then preamble at (pos n) rest h e = signed_then preamble at 43 (decimal n) rest refl (decimal_are_digits n (below n h)) (plus_range n h) e
offset_then preamble at (negsuc n) rest h e = signed_then preamble at 45 (decimal (suc n)) rest refl (decimal_are_digits (suc n) (below_minus n h)) (minus_range n h) e
