-- A text whose tokens are words, numbers and marks is one of ASCII bytes.
use Rattle.std.proofs.Common.{◌≡◌, ℕ, zero, suc, ◌+◌, ◌-◌, ◌==◌, Bool, true, false, cond, ◌&&◌, nat_lt, List, [], ◌∷◌, take, drop, refl, sym, ap, ◌∙◌, arith, inl, inr}
use Rattle.std.specs.List.{list_all}
use Rattle.std.specs.Str.{IsAscii, bytes_eq}
use Rattle.std.specs.Char.{is_ascii_digit, is_ascii_hexdigit}
use Rattle.std.proofs.lemmas.Bool.{ltb-true, and_parts, or_cases, and_from}
use Rattle.std.proofs.lemmas.Bool.Decides.{nat_tests}
use Rattle.clif_lex.specs.declared.spans.TokenKind.{TokenKind}
use Rattle.clif_lex.specs.declared.spans.TokenKind.TheVariants.{Header, Comment, Name, Word, Number, Srcloc, Arrow, Mark}
use Rattle.clif_lex.specs.declared.spans.Token.{Token}
use Rattle.clif_lex.specs.Bytes.{is_blank, is_letter, is_word_byte, is_decimal_byte, is_hex_byte, is_sign, is_mark, first}
use Rattle.clif_lex.specs.Lexing.{is_preamble}
use Rattle.clif_lex.specs.Numbers.{unsigned, is_hex}
use Rattle.clif_lex.specs.Spelling.{spells, are_digits, IsDivided, IsAtEnd}

abbrev pub is_small : ℕ → Bool
is_small c = nat_lt c 128

abbrev pub are_small : List ℕ → Bool
are_small cs = list_all is_small cs

all_of : (p : ℕ → Bool) → ((c : ℕ) → p c ≡ true → is_small c ≡ true) → (cs : List ℕ) → list_all p cs ≡ true → are_small cs ≡ true
all_of p small [] e = refl
all_of p small (c ∷ cs) e = let h = and_parts (p c) (list_all p cs) e in and_from (is_small c) (are_small cs) (small c h.0) (all_of p small cs h.1)

blank_small : (c : ℕ) → is_blank c ≡ true → is_small c ≡ true
blank_small c h = grind (arith, nat_tests)

word_small : (c : ℕ) → is_word_byte c ≡ true → is_small c ≡ true
word_small c h = grind (arith, nat_tests)

decimal_small : (c : ℕ) → is_decimal_byte c ≡ true → is_small c ≡ true
decimal_small c h = grind (arith, nat_tests)

hex_small : (c : ℕ) → is_hex_byte c ≡ true → is_small c ≡ true
hex_small c h = grind (arith, nat_tests)

sign_small : (c : ℕ) → is_sign c ≡ true → is_small c ≡ true
sign_small c h = grind (arith, nat_tests)

mark_small : (c : ℕ) → is_mark c ≡ true → is_small c ≡ true
mark_small c h = grind (arith, nat_tests)

zero_x_small : (c d : ℕ) → (c == 48 && d == 120) ≡ true → (is_small c ≡ true) × (is_small d ≡ true)
zero_x_small c d h = (grind (arith, nat_tests), grind (arith, nat_tests))

hex_digits_small : (cs : List ℕ) → is_hex cs ≡ true → list_all is_hex_byte (drop 2 cs) ≡ true → are_small cs ≡ true
hex_digits_small [] h e = refl
hex_digits_small (c ∷ []) h e = and_from (is_small c) true (zero_x_small c 0 h).0 refl
hex_digits_small (c ∷ d ∷ cs) h e =
    let s = zero_x_small c d h in
    and_from (is_small c) (is_small d && are_small cs) s.0 (and_from (is_small d) (are_small cs) s.1 (all_of is_hex_byte hex_small cs e))

digits_small : (cs : List ℕ) → are_digits cs ≡ true → are_small cs ≡ true
digits_small cs h = elim (or_cases (is_ascii_digit (first cs) && list_all is_decimal_byte cs) (is_hex cs && is_ascii_hexdigit (first (drop 2 cs)) && list_all is_hex_byte (drop 2 cs)) h) [
  | inl e ↦ all_of is_decimal_byte decimal_small cs (and_parts (is_ascii_digit (first cs)) (list_all is_decimal_byte cs) e).1
  | inr e ↦ (let b = and_parts (is_hex cs && is_ascii_hexdigit (first (drop 2 cs))) (list_all is_hex_byte (drop 2 cs)) e in hex_digits_small cs (and_parts (is_hex cs) (is_ascii_hexdigit (first (drop 2 cs))) b.0).0 b.1)
]

number_small : (cs : List ℕ) → are_digits (unsigned cs) ≡ true → are_small cs ≡ true
number_small [] h = refl
number_small (c ∷ cs) h = go (is_sign c) refl
  where
    go : (b : Bool) → is_sign c ≡ b → are_small (c ∷ cs) ≡ true
    go true e = and_from (is_small c) (are_small cs) (sign_small c e) (digits_small cs (ap (λ (d : Bool). are_digits (drop (cond d 1 0) (c ∷ cs))) (sym e) ∙ h))
    go false e = digits_small (c ∷ cs) (ap (λ (d : Bool). are_digits (drop (cond d 1 0) (c ∷ cs))) (sym e) ∙ h)

-- a kind of token that may stand in a script
abbrev pub is_of_script : TokenKind → Bool
is_of_script Word = true
is_of_script Number = true
is_of_script (Mark c) = true
is_of_script kind = false

same_bytes : (xs : List ℕ) (c : ℕ) → bytes_eq xs (c ∷ []) ≡ true → is_small c ≡ true → are_small xs ≡ true
same_bytes [] c e s = refl
same_bytes (x ∷ []) c e s = grind (arith, nat_tests)
same_bytes (x ∷ y ∷ xs) c e s = grind (arith, nat_tests)

token_small : (preamble : Bool) (kind : TokenKind) (cs : List ℕ) → is_of_script kind ≡ true → spells preamble kind cs ≡ true → are_small cs ≡ true
token_small preamble Word cs k h =
    all_of is_word_byte word_small cs (and_parts (is_letter (first cs)) (list_all is_word_byte cs) (and_parts (is_letter (first cs) && list_all is_word_byte cs) _ h).0).1
token_small preamble Number cs k h = number_small cs h
token_small preamble (Mark c) cs k h =
    let b = and_parts (is_mark c) (bytes_eq cs (c ∷ [])) h in
    same_bytes cs c b.1 (mark_small c b.0)
token_small preamble Header cs k h = absurd cc
token_small preamble Comment cs k h = absurd cc
token_small preamble Name cs k h = absurd cc
token_small preamble Srcloc cs k h = absurd cc
token_small preamble Arrow cs k h = absurd cc

halves : (n : ℕ) (cs : List ℕ) → are_small (take n cs) ≡ true → are_small (drop n cs) ≡ true → are_small cs ≡ true
halves zero cs f g = g
halves (suc n) [] f g = refl
halves (suc n) (c ∷ cs) f g = let h = and_parts (is_small c) (are_small (take n cs)) f in and_from (is_small c) (are_small cs) h.0 (halves n cs h.1 g)

pub divided_small : (preamble : Bool) (at : ℕ) (text : List ℕ) (ts : List Token) → IsDivided IsAtEnd preamble at text ts → list_all (λ t. is_of_script t.kind) ts ≡ true → are_small text ≡ true
divided_small preamble at text [] (n, within, blank, end) k =
    halves n text (all_of is_blank blank_small (take n text) blank) (ap are_small end)
divided_small preamble at text (t ∷ ts) (n, within, blank, (stands, rest)) k =
    let b = and_parts (is_of_script t.kind) (list_all (λ u. is_of_script u.kind) ts) k in
    let len = t.end - (at + n) in
    halves n text (all_of is_blank blank_small (take n text) blank)
    (halves len (drop n text) (token_small preamble t.kind (take len (drop n text)) b.0 stands.2.spelled)
    (divided_small (preamble && is_preamble t.kind) t.end (drop len (drop n text)) ts rest b.1))

pub small_is_ascii : (cs : List ℕ) → are_small cs ≡ true → IsAscii cs
small_is_ascii [] e i = omega arith
small_is_ascii (c ∷ cs) e zero = ltb-true c 128 (and_parts (is_small c) (are_small cs) e).0
small_is_ascii (c ∷ cs) e (suc i) = small_is_ascii cs (and_parts (is_small c) (are_small cs) e).1 i
