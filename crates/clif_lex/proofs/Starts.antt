-- A token takes a byte at least.
use Rattle.std.proofs.Common.{◌≡◌, ℕ, ◌+◌, ◌<◌, Bool, true, false, not, ◌||◌, ◌&&◌, cond, List, [], ◌∷◌, take, drop, Result, Ok, Err, IfOk, refl, arith}
use Rattle.std.proofs.lemmas.Bool.Decides.{nat_tests}
use Rattle.std.specs.Char.{is_ascii_digit}
use Rattle.std.specs.List.{prefix_len}
use Rattle.clif_lex.specs.declared.spans.Token.{Token}
use Rattle.clif_lex.specs.declared.spans.TokenKind.TheVariants.{Number}
use Rattle.clif_lex.specs.declared.faults.LexErr.{LexErr}
use Rattle.clif_lex.specs.declared.faults.LexErr.TheVariants.{BadNumber}
use Rattle.clif_lex.specs.Bytes.{first, second, is_letter, is_sign, is_word_byte, is_decimal_byte, is_hex_byte}
use Rattle.clif_lex.specs.Numbers.{is_hex, digits_len, number_len, lacks_digits, is_in_range}
use Rattle.clif_lex.specs.Lexing.{begins_number, token, number_at}

-- a run whose first byte passes is not empty
run_some : (p : ℕ → Bool) (c : ℕ) (cs : List ℕ) → p c ≡ true → 0 < prefix_len p (c ∷ cs)
run_some p c cs h = rw h (omega arith)

pub letter_is_word_byte : (c : ℕ) → is_letter c ≡ true → is_word_byte c ≡ true
letter_is_word_byte c h = grind (arith, nat_tests)

digits_some : (text : List ℕ) → is_ascii_digit (first text) ≡ true → 0 < digits_len text
digits_some [] h = absurd cc
digits_some (c ∷ cs) h =
    let digit : is_decimal_byte c ≡ true = grind (arith, nat_tests) in
    elim (is_hex (c ∷ cs)) as (λ (b : Bool). 0 < cond b (2 + prefix_len is_hex_byte (drop 2 (c ∷ cs))) (prefix_len is_decimal_byte (c ∷ cs))) [
      | true ↦ omega arith
      | false ↦ run_some is_decimal_byte c cs digit
    ]

number_len_some : (text : List ℕ) → begins_number text ≡ true → 0 < number_len text
number_len_some text h =
    elim (is_sign (first text)) as (λ (b : Bool). (is_ascii_digit (first text) || (b && is_ascii_digit (second text))) ≡ true → 0 < cond b 1 0 + digits_len (drop (cond b 1 0) text)) [
      | true ↦ λ g. omega arith
      | false ↦ λ g. omega (arith, digits_some text (only_left (is_ascii_digit (first text)) g))
    ] h
  where
    only_left : (a : Bool) → (a || false) ≡ true → a ≡ true
    only_left true g = refl
    only_left false g = g

pub number_some : (at : ℕ) (text : List ℕ) → begins_number text ≡ true → IfOk (number_at at text) (λ t. at < t.end)
unfolding number_at
number_some at text h =
    if_ok ((lacks_digits text || is_letter (first (drop (number_len text) text))) || not (is_in_range (take (number_len text) text))) (number_len text) (number_len_some text h)
  where
    if_ok : (b : Bool) (n : ℕ) → 0 < n → IfOk (cond {A = Result Token LexErr} b (Err (BadNumber at)) (Ok (token Number at n))) (λ t. at < t.end)
    if_ok true n some = tt
    if_ok false n some = omega arith
