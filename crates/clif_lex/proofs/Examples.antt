-- The definitions, computed on examples.
use Rattle.std.proofs.Common.{◌≡◌, ℕ, true, false, List, [], ◌∷◌, codes, Ok, Err, refl, pos, negsuc}
use Rattle.clif_lex.specs.declared.spans.Token.{Token}
use Rattle.clif_lex.specs.declared.spans.TokenKind.{TokenKind}
use Rattle.clif_lex.specs.declared.spans.TokenKind.TheVariants.{Header, Comment, Name, Word, Number, Srcloc, Arrow, Mark}
use Rattle.clif_lex.specs.declared.faults.LexErr.{LexErr}
use Rattle.clif_lex.specs.declared.faults.LexErr.TheVariants.{BadChar, BadNumber}
use Rattle.clif_lex.specs.Numbers.{spelled_number}
use Rattle.clif_lex.specs.Lexing.{number_at, word_at, token_at, tokens_from, tokens_of}
use Rattle.clif_lex.specs.Places.{line_at, column_at}
use Rattle.clif_lex.specs.Stretches.{preamble_after, stretch_tokens}

abbrev Reads : List ℕ → List Token → Type 0
Reads text ts = tokens_of text ≡ Ok ts

abbrev Fails : List ℕ → LexErr → Type 0
Fails text e = tokens_of text ≡ Err e

abbrev at : TokenKind → ℕ → ℕ → Token
at kind start end = record { kind = kind; start = start; end = end }

-- each kind once

every_kind : Reads (codes "test run\n; c\n%f v0 -1 @0f -> (") (at Header 0 8 ∷ at Comment 9 12 ∷ at Name 13 15 ∷ at Word 16 18 ∷ at Number 19 21 ∷ at Srcloc 22 25 ∷ at Arrow 26 28 ∷ at (Mark 40) 29 30 ∷ [])
unfolding number_at word_at token_at tokens_from
every_kind = refl

-- only blanks
no_tokens : Reads (codes " \t\r\n") []
unfolding number_at word_at token_at tokens_from
no_tokens = refl

-- numbers

-- an underscore belongs to the digits, and then a letter follows them
letter_behind_digits : Fails (codes "1_a") (BadNumber 0)
unfolding number_at word_at token_at tokens_from
letter_behind_digits = refl

-- trailing and doubled underscores
underscores : Reads (codes "1_ 1__0 0xf_") (at Number 0 2 ∷ at Number 3 7 ∷ at Number 8 12 ∷ [])
unfolding number_at word_at token_at tokens_from
underscores = refl

underscore_before_digits : Fails (codes "0x_1") (BadNumber 0)
unfolding number_at word_at token_at tokens_from
underscore_before_digits = refl

large_x : Fails (codes "0X1") (BadNumber 0)
unfolding number_at word_at token_at tokens_from
large_x = refl

no_digits : Fails (codes "(0x") (BadNumber 1)
unfolding number_at word_at token_at tokens_from
no_digits = refl

too_large : Fails (codes "18446744073709551616") (BadNumber 0)
unfolding number_at word_at token_at tokens_from
too_large = refl

largest : Reads (codes "18446744073709551615 -9223372036854775808") (at Number 0 20 ∷ at Number 21 41 ∷ [])
unfolding number_at word_at token_at tokens_from
largest = refl

too_small : Fails (codes " -9223372036854775809") (BadNumber 1)
unfolding number_at word_at token_at tokens_from
too_small = refl

-- a sign belongs to a number before a digit, and to an Arrow
signs : Reads (codes "v0+8 ->") (at Word 0 2 ∷ at Number 2 4 ∷ at Arrow 5 7 ∷ [])
unfolding number_at word_at token_at tokens_from
signs = refl

lone_sign : Fails (codes "v0 -") (BadChar 3)
unfolding number_at word_at token_at tokens_from
lone_sign = refl

sign_apart : Fails (codes "v0 + 8") (BadChar 3)
unfolding number_at word_at token_at tokens_from
sign_apart = refl

-- Headers

-- the first word alone decides
colon_behind_test : Reads (codes "test:x") (at Header 0 6 ∷ [])
unfolding number_at word_at token_at tokens_from
colon_behind_test = refl

longer_word : Reads (codes "tests") (at Word 0 5 ∷ [])
unfolding number_at word_at token_at tokens_from
longer_word = refl

-- with blanks before, and Comments between
two_headers : Reads (codes " set a\n;b\n\ttarget\nv") (at Header 1 6 ∷ at Comment 7 9 ∷ at Header 11 17 ∷ at Word 18 19 ∷ [])
unfolding number_at word_at token_at tokens_from
two_headers = refl

-- behind any other token there is no Header
late_header : Reads (codes "(\ntest x") (at (Mark 40) 0 1 ∷ at Word 2 6 ∷ at Word 7 8 ∷ [])
unfolding number_at word_at token_at tokens_from
late_header = refl

-- the word is not the first of its line
no_first_word : Reads (codes "1 test") (at Number 0 1 ∷ at Word 2 6 ∷ [])
unfolding number_at word_at token_at tokens_from
no_first_word = refl

-- a carriage return before a line feed belongs to the Comment or the Header
carriage_return : Reads (codes "set\r\n;c\r\n") (at Header 0 4 ∷ at Comment 5 8 ∷ [])
unfolding number_at word_at token_at tokens_from
carriage_return = refl

-- other words

location_and_word : Reads (codes "@0ag") (at Srcloc 0 3 ∷ at Word 3 4 ∷ [])
unfolding number_at word_at token_at tokens_from
location_and_word = refl

lone_at : Fails (codes "@g") (BadNumber 0)
unfolding number_at word_at token_at tokens_from
lone_at = refl

leading_zero : Reads (codes "v01") (at Word 0 3 ∷ [])
unfolding number_at word_at token_at tokens_from
leading_zero = refl

lone_percent : Fails (codes "%") (BadChar 0)
unfolding number_at word_at token_at tokens_from
lone_percent = refl

name_of_digits : Reads (codes "%1_a.") (at Name 0 4 ∷ at (Mark 46) 4 5 ∷ [])
unfolding number_at word_at token_at tokens_from
name_of_digits = refl

-- a fault in the third line of a function, and its place

abbrev bad_char_text : List ℕ
bad_char_text = codes "function %f(i64) -> i64 {\nblock0(v0: i64):\n    v1 = iadd v0, #\n    return v0\n}\n"

abbrev bad_number_text : List ℕ
bad_number_text = codes "function %f(i64) -> i64 {\nblock0(v0: i64):\n    v1 = iconst.i64 0x\n    return v0\n}\n"

bad_char : Fails bad_char_text (BadChar 61)
unfolding number_at word_at token_at tokens_from
bad_char = refl

bad_number : Fails bad_number_text (BadNumber 63)
unfolding number_at word_at token_at tokens_from
bad_number = refl

bad_char_place : (line_at bad_char_text 61 ≡ 3)
    × (column_at bad_char_text 61 ≡ 19)
bad_char_place = (refl, refl)

bad_number_place : (line_at bad_number_text 63 ≡ 3)
    × (column_at bad_number_text 63 ≡ 21)
bad_number_place = (refl, refl)

-- the end of a text, also behind a line feed
end_place : (line_at (codes "a\nbc") 4 ≡ 2) × (column_at (codes "a\nbc") 4 ≡ 3) × (line_at (codes "a\n") 2 ≡ 2) × (column_at (codes "a\n") 2 ≡ 1) × (line_at [] 0 ≡ 1) × (column_at [] 0 ≡ 1)
end_place = (refl, refl, refl, refl, refl, refl)

-- what numbers mean

decimal : spelled_number (codes "1_000") ≡ pos 1000
decimal = refl

hexadecimal : spelled_number (codes "+0xfF_") ≡ pos 255
hexadecimal = refl

negative : spelled_number (codes "-10") ≡ negsuc 9
negative = refl

negative_hexadecimal : spelled_number (codes "-0x10") ≡ negsuc 15
negative_hexadecimal = refl

minus_zero : spelled_number (codes "-0") ≡ pos 0
minus_zero = refl

-- stretches

abbrev three_lines : List ℕ
three_lines = codes "set a\nf 1\nset b\n"

first_line : (stretch_tokens three_lines true 0 6 ≡ Ok (at Header 0 5 ∷ [])) × (preamble_after true (at Header 0 5 ∷ []) ≡ true)
unfolding number_at word_at token_at tokens_from
first_line = (refl, refl)

second_line : (stretch_tokens three_lines true 6 10 ≡ Ok (at Word 6 7 ∷ at Number 8 9 ∷ [])) × (preamble_after true (at Word 6 7 ∷ at Number 8 9 ∷ []) ≡ false)
unfolding number_at word_at token_at tokens_from
second_line = (refl, refl)

third_line : stretch_tokens three_lines false 10 16 ≡ Ok (at Word 10 13 ∷ at Word 14 15 ∷ [])
unfolding number_at word_at token_at tokens_from
third_line = refl

-- a stretch that ends in the middle of a line ends its token
cut_token : stretch_tokens three_lines true 0 4 ≡ Ok (at Header 0 4 ∷ [])
unfolding number_at word_at token_at tokens_from
cut_token = refl

-- a fault behind a stretch is none of it
stretch_fault : (stretch_tokens (codes "a\n #\n") false 0 2 ≡ Ok (at Word 0 1 ∷ [])) × (stretch_tokens (codes "a\n #\n") false 2 5 ≡ Err (BadChar 3))
unfolding number_at word_at token_at tokens_from
stretch_fault = (refl, refl)
