-- The tokens of a text: bytes are read from the left, and the longest token is taken.
use Rattle.std.specs.Prelude.{◌≡◌, ℕ, ◌+◌, Bool, true, false, not, ◌&&◌, ◌||◌, ◌==◌, nat_lt, if◌then◌else◌, List, []}
use Rattle.std.specs.Prelude.{◌∷◌, take, drop, codes, Result, Ok, Err}
use Rattle.std.specs.List.{prefix_len}
use Rattle.std.specs.Str.{bytes_eq}
use Rattle.std.specs.Char.{is_ascii_digit, is_ascii_hexdigit}
use Rattle.clif_lex.specs.declared.spans.TokenKind.{TokenKind}
use Rattle.clif_lex.specs.declared.spans.TokenKind.TheVariants.{Header, Comment, Name, Word, Number, Srcloc, Arrow}
use Rattle.clif_lex.specs.declared.spans.TokenKind.TheVariants.{Mark}
use Rattle.clif_lex.specs.declared.spans.Token.{Token}
use Rattle.clif_lex.specs.declared.faults.LexErr.{LexErr}
use Rattle.clif_lex.specs.declared.faults.LexErr.TheVariants.{BadChar, BadNumber, NoMemory}
use Rattle.clif_lex.specs.Bytes.{percent, minus, semicolon, greater, at_sign, is_blank, is_no_line_feed, is_letter}
use Rattle.clif_lex.specs.Bytes.{is_word_byte, is_sign, is_mark, first, second}
use Rattle.clif_lex.specs.Numbers.{is_in_range, number_len, lacks_digits}

infixl 10 ◌>>=◌
abbrev pub ◌>>=◌ : {A B E : Type 0} → Result A E → (A → Result B E) → Result B E
(Ok x) >>= f = f x
(Err e) >>= f = Err e

-- the words that begin a Header
abbrev pub is_header_word : List ℕ → Bool
is_header_word word = bytes_eq word (codes "test") || bytes_eq word (codes "set") || bytes_eq word (codes "target")

-- whether a Header may still stand behind a token of this kind
abbrev pub is_preamble : TokenKind → Bool
is_preamble Header = true
is_preamble Comment = true
is_preamble kind = false

-- whether a number begins a text: a digit, or a sign before one
abbrev pub begins_number : List ℕ → Bool
begins_number text = is_ascii_digit (first text) || (is_sign (first text) && is_ascii_digit (second text))

abbrev pub token : TokenKind → ℕ → ℕ → Token
token kind at len = record { kind = kind; start = at; end = at + len }

-- The Number that begins a text, before which `at` bytes stand.
-- It has digits, no letter follows it directly, and it is in the range of 64 bits.
unfoldable pub number_at : ℕ → List ℕ → Result Token LexErr
number_at at text =
    let len = number_len text in
    if lacks_digits text || is_letter (first (drop len text))
    || not (is_in_range (take len text)) then Err (BadNumber at)
    else Ok (token Number at len)

-- The word that begins a text, or the Header where one may stand.
unfoldable pub word_at : Bool → ℕ → List ℕ → Token
word_at preamble at text =
    let len = prefix_len is_word_byte text in
    if preamble && is_header_word (take len text) then token Header at (prefix_len is_no_line_feed text)
    else token Word at len

-- The token that begins a text, before which `at` bytes stand, and there only blanks, Headers and Comments where
-- `preamble` holds.
unfoldable pub token_at : Bool → ℕ → List ℕ → Result Token LexErr
token_at preamble at text =
    let c = first text in
    let next = second text in
    if is_letter c then Ok (word_at preamble at text)
    else if begins_number text then number_at at text
    else if is_mark c then Ok (token (Mark c) at 1)
    else if c == percent && is_word_byte next then Ok (token Name at (1 + prefix_len is_word_byte (drop 1 text)))
    else if c == semicolon then Ok (token Comment at (prefix_len is_no_line_feed text))
    else if c == minus && next == greater then Ok (token Arrow at 2)
    else if c == at_sign then
    (if is_ascii_hexdigit next
    then Ok (token Srcloc at (1 + prefix_len is_ascii_hexdigit (drop 1 text))) else Err (BadNumber at))
    else Err (BadChar at)

-- The tokens of the bytes from `at` on, where the token that was taken last ends at `past`.
-- A byte of that token, and a blank, is passed over. At any other a token begins.
unfoldable pub tokens_from : Bool → ℕ → ℕ → List ℕ → Result (List Token) LexErr
tokens_from preamble past at [] = Ok []
tokens_from preamble past at (c ∷ cs) =
    if nat_lt at past || is_blank c then tokens_from preamble past (at + 1) cs
    else token_at preamble at (c ∷ cs) >>= λ t. tokens_from (preamble && is_preamble t.kind) t.end (at + 1) cs
    >>= λ ts. Ok (t ∷ ts)

-- the tokens of a text, or its first fault
abbrev pub tokens_of : List ℕ → Result (List Token) LexErr
tokens_of text = tokens_from true 0 0 text

-- what a function returned is what the definition gives, unless memory ran out
abbrev pub Gives : Result (List Token) LexErr → Result (List Token) LexErr → Type 0
Gives (Ok ts) given = given ≡ Ok ts
Gives (Err (BadChar at)) given = given ≡ Err (BadChar at)
Gives (Err (BadNumber at)) given = given ≡ Err (BadNumber at)
Gives (Err NoMemory) given = Unit {0}
