-- The sets of bytes that tokens are made of, as the text form of CLIF uses them: ASCII alone has a meaning.
use Rattle.std.specs.Prelude.{ℕ, Bool, not, ◌==◌, ◌||◌, List, [], ◌∷◌, codes}
use Rattle.std.specs.Char.{is_ascii_digit, is_ascii_hexdigit, is_ascii_alphabetic, is_ascii_alphanumeric}
use Rattle.std.specs.List.{list_any}

abbrev pub tab : ℕ
tab = 9

abbrev pub line_feed : ℕ
line_feed = 10

abbrev pub carriage_return : ℕ
carriage_return = 13

abbrev pub space : ℕ
space = 32

abbrev pub percent : ℕ
percent = 37

abbrev pub plus : ℕ
plus = 43

abbrev pub minus : ℕ
minus = 45

abbrev pub semicolon : ℕ
semicolon = 59

abbrev pub greater : ℕ
greater = 62

abbrev pub at_sign : ℕ
at_sign = 64

abbrev pub underscore : ℕ
underscore = 95

-- what stands between tokens
abbrev pub is_blank : ℕ → Bool
is_blank c = c == space || c == line_feed || c == tab || c == carriage_return

abbrev pub is_no_line_feed : ℕ → Bool
is_no_line_feed c = not (c == line_feed)

-- what begins a word
abbrev pub is_letter : ℕ → Bool
is_letter c = is_ascii_alphabetic c || c == underscore

-- what a word or a name goes on with
abbrev pub is_word_byte : ℕ → Bool
is_word_byte c = is_ascii_alphanumeric c || c == underscore

-- what a number goes on with, in base 10 and in base 16
abbrev pub is_decimal_byte : ℕ → Bool
is_decimal_byte c = is_ascii_digit c || c == underscore

abbrev pub is_hex_byte : ℕ → Bool
is_hex_byte c = is_ascii_hexdigit c || c == underscore

abbrev pub is_sign : ℕ → Bool
is_sign c = c == plus || c == minus

abbrev pub is_mark : ℕ → Bool
is_mark c = list_any (λ mark. c == mark) (codes "(){}[],:=.<>")

-- the byte at the front, or 0 in an empty text
abbrev pub first : List ℕ → ℕ
first [] = 0
first (c ∷ cs) = c

-- the byte after that, or 0 where there is none
abbrev pub second : List ℕ → ℕ
second [] = 0
second (c ∷ cs) = first cs
