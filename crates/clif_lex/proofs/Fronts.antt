-- What the byte at a place of a text begins.
use Rattle.std.proofs.Common.{◌≡◌, ℕ, ◌+◌, ◌<◌, Bool, true, false, ◌&&◌, List, length, take, drop, get_or, Ok, refl, ap, arith}
use Rattle.std.proofs.lemmas.List.{drop_more}
use Rattle.std.proofs.lemmas.Bool.Decides.{nat_tests}
use Rattle.std.specs.Char.{is_ascii_digit}
use Rattle.std.specs.List.{prefix_len}
use Rattle.clif_lex.specs.declared.spans.TokenKind.TheVariants.{Header, Word, Mark}
use Rattle.clif_lex.specs.Bytes.{first, is_letter, is_mark, is_sign, is_word_byte, is_no_line_feed}
use Rattle.clif_lex.specs.Lexing.{is_header_word, token, token_at, word_at}

pub first_at : (at : ℕ) (text : List ℕ) → at < length text → first (drop at text) ≡ get_or text at 0
first_at at text below = ap first (drop_more text at 0 below)

-- a word's first byte is one that a word goes on with
pub word_reach : (at end : ℕ) (text : List ℕ) → at < length text → is_letter (first (drop at text)) ≡ true → end ≡ at + 1 + prefix_len is_word_byte (drop (at + 1) text)
    → end ≡ at + prefix_len is_word_byte (drop at text)
word_reach at end text below letter e =
    let split = drop_more text at 0 below in
    let c = get_or text at 0 in
    let begins : is_letter c ≡ true = rw split at letter in
    let goes_on : is_word_byte c ≡ true = grind (arith, nat_tests) in
    rw (split, goes_on) (omega (arith, e))

pub header_at : (preamble : Bool) (at : ℕ) (text : List ℕ) → (preamble && is_header_word (take (prefix_len is_word_byte text) text)) ≡ true
    → word_at preamble at text ≡ token Header at (prefix_len is_no_line_feed text)
unfolding word_at
header_at preamble at text h = rw h refl

pub plain_word_at : (preamble : Bool) (at : ℕ) (text : List ℕ) → (preamble && is_header_word (take (prefix_len is_word_byte text) text)) ≡ false
    → word_at preamble at text ≡ token Word at (prefix_len is_word_byte text)
unfolding word_at
plain_word_at preamble at text h = rw h refl

pub letter_token : (preamble : Bool) (at : ℕ) (text : List ℕ) → is_letter (first text) ≡ true → token_at preamble at text ≡ Ok (word_at preamble at text)
unfolding token_at
letter_token preamble at text h = rw h refl

pub mark_no_digit : (c : ℕ) → is_mark c ≡ true → is_ascii_digit c ≡ false
mark_no_digit c h = grind (arith, nat_tests)

pub mark_no_sign : (c : ℕ) → is_mark c ≡ true → is_sign c ≡ false
mark_no_sign c h = grind (arith, nat_tests)

pub mark_token : (preamble : Bool) (at : ℕ) (text : List ℕ) → is_letter (first text) ≡ false → is_mark (first text) ≡ true → token_at preamble at text ≡ Ok (token (Mark (first text)) at 1)
unfolding token_at
mark_token preamble at text no_letter mark =
    let digit = mark_no_digit (first text) mark in
    let sign = mark_no_sign (first text) mark in
    rw (no_letter, digit, sign, mark) refl
