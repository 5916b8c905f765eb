-- What may stand as a token, kind by kind, apart from the way in which tokens are found;
-- and the law that the tokens of a text are the longest that stand there, with only blanks between them.
use Rattle.std.specs.Prelude.{◌≡◌, ℕ, ◌+◌, ◌-◌, ◌<◌, ◌≤◌, Bool, true, false, not, ◌&&◌, ◌||◌, ◌==◌, ◌⊎◌, ◌≢◌, List, []}
use Rattle.std.specs.Prelude.{◌∷◌, length, take, drop, slice_get, codes, Some, Result, Ok, Err}
use Rattle.std.specs.List.{prefix_len, list_all}
use Rattle.std.specs.Str.{bytes_eq}
use Rattle.std.specs.Char.{is_ascii_digit, is_ascii_hexdigit}
use Rattle.clif_lex.specs.declared.spans.TokenKind.{TokenKind}
use Rattle.clif_lex.specs.declared.spans.TokenKind.TheVariants.{Header, Comment, Name, Word, Number, Srcloc, Arrow}
use Rattle.clif_lex.specs.declared.spans.TokenKind.TheVariants.{Mark}
use Rattle.clif_lex.specs.declared.spans.Token.{Token}
use Rattle.clif_lex.specs.declared.faults.LexErr.{LexErr}
use Rattle.clif_lex.specs.declared.faults.LexErr.TheVariants.{BadChar, BadNumber, NoMemory}
use Rattle.clif_lex.specs.Bytes.{percent, semicolon, at_sign, is_blank, is_no_line_feed, is_letter, is_word_byte}
use Rattle.clif_lex.specs.Bytes.{is_decimal_byte, is_hex_byte, is_mark, first, second}
use Rattle.clif_lex.specs.Numbers.{is_hex, unsigned, is_in_range}
use Rattle.clif_lex.specs.Spans.{spelling}
use Rattle.clif_lex.specs.Lexing.{is_header_word, is_preamble}

-- a digit, and then digits and underscores; or `0x`, a hexadecimal digit, and then such digits and underscores
abbrev pub are_digits : List ℕ → Bool
are_digits text =
    (is_ascii_digit (first text) && list_all is_decimal_byte text)
    || (is_hex text && is_ascii_hexdigit (first (drop 2 text)) && list_all is_hex_byte (drop 2 text))

-- Whether a text is spelled as a token of a kind may be. A Header may stand only where `preamble` holds,
-- and its first word is no Word there.
abbrev pub spells : Bool → TokenKind → List ℕ → Bool
spells preamble Header text =
    preamble && is_header_word (take (prefix_len is_word_byte text) text) && list_all is_no_line_feed text
spells preamble Comment text = first text == semicolon && list_all is_no_line_feed text
spells preamble Name text = first text == percent && is_word_byte (second text) && list_all is_word_byte (drop 1 text)
spells preamble Word text =
    is_letter (first text) && list_all is_word_byte text && not (preamble && is_header_word text)
spells preamble Number text = are_digits (unsigned text)
spells preamble Srcloc text =
    first text == at_sign && is_ascii_hexdigit (second text) && list_all is_ascii_hexdigit (drop 1 text)
spells preamble Arrow text = bytes_eq text (codes "->")
spells preamble (Mark c) text = is_mark c && bytes_eq text (c ∷ [])

-- the longest beginning of a text that is spelled as a token may be takes `len` bytes, and spells this kind alone
pub record IsLongest (preamble : Bool) (kind : TokenKind) (len : ℕ) (text : List ℕ) : Type 0 where
  pub within : len ≤ length text
  pub spelled : spells preamble kind (take len text) ≡ true
  pub longest : (n : ℕ) (other : TokenKind) → n ≤ length text → spells preamble other (take n text) ≡ true → n ≤ len
  pub only : (other : TokenKind) → spells preamble other (take len text) ≡ true → other ≡ kind

-- no beginning of a text is spelled as a token may be
abbrev pub IsNone : Bool → List ℕ → Type 0
IsNone preamble text = (n : ℕ) (kind : TokenKind) → n ≤ length text → spells preamble kind (take n text) ≡ false

-- whether a letter follows the number at the front directly, or it is no number of 64 bits
abbrev pub is_bad : ℕ → List ℕ → Bool
is_bad len text = is_letter (first (drop len text)) || not (is_in_range (take len text))

-- What stands at the front of a text, before which `at` bytes stand: a token, which is the longest;
-- or a bad number, or an `@` with no hexadecimal digit after it; or a byte that begins no token.
abbrev pub Stands : Bool → ℕ → List ℕ → Result Token LexErr → Type 0
Stands preamble at text (Ok t) =
    (t.start ≡ at) × (at < t.end) × IsLongest preamble t.kind (t.end - at) text
    × (t.kind ≡ Number → is_bad (t.end - at) text ≡ false)
Stands preamble at text (Err (BadNumber spot)) =
    (spot ≡ at)
    × (((first text ≡ at_sign) × IsNone preamble text)
    ⊎ ((len : ℕ) × IsLongest preamble Number len text × (is_bad len text ≡ true)))
Stands preamble at text (Err (BadChar spot)) = (spot ≡ at) × IsNone preamble text × (first text ≢ at_sign)
Stands preamble at text (Err NoMemory) = ⊥

-- blanks stand at the front of a text, before which `at` bytes stand, and P holds of what follows them
abbrev pub AfterBlanks : (ℕ → List ℕ → Type 0) → ℕ → List ℕ → Type 0
AfterBlanks P at text =
    (n : ℕ) × (n ≤ length text) × (list_all is_blank (take n text) ≡ true) × P (at + n) (drop n text)

-- A text is blanks, a token, blanks, a token, and so on; and then blanks, and what `last` says.
abbrev pub IsDivided : (Bool → ℕ → List ℕ → Type 0) → Bool → ℕ → List ℕ → List Token → Type 0
IsDivided last preamble at text [] = AfterBlanks (last preamble) at text
IsDivided last preamble at text (t ∷ ts) =
    AfterBlanks
    (λ start rest. Stands preamble start rest (Ok t)
    × IsDivided last (preamble && is_preamble t.kind) t.end (drop (t.end - start) rest) ts) at text

-- the text ends
abbrev pub IsAtEnd : Bool → ℕ → List ℕ → Type 0
IsAtEnd preamble at rest = rest ≡ []

-- a byte that is no blank stands here, and no token
abbrev pub IsAtFault : LexErr → Bool → ℕ → List ℕ → Type 0
IsAtFault fault preamble at rest =
    (0 < length rest) × (is_blank (first rest) ≡ false) × Stands preamble at rest (Err fault)

abbrev pub IsReadFrom : Bool → ℕ → List ℕ → Result (List Token) LexErr → Type 0
IsReadFrom preamble at text (Ok ts) = IsDivided IsAtEnd preamble at text ts
IsReadFrom preamble at text (Err fault) = (ts : List Token) × IsDivided (IsAtFault fault) preamble at text ts

-- The tokens of a text; or its fault, which is the first place where none stands, with tokens and blanks alone before
-- it.
abbrev pub IsReading : List ℕ → Result (List Token) LexErr → Type 0
IsReading text read = IsReadFrom true 0 text read

-- a fault stands at a byte of the text
abbrev pub IsFaultIn : List ℕ → LexErr → Type 0
IsFaultIn text (BadChar spot) = spot < length text
IsFaultIn text (BadNumber spot) = spot < length text
IsFaultIn text NoMemory = Unit {0}

-- what is known of each token of a text by itself
pub record IsTokenIn (text : List ℕ) (t : Token) : Type 0 where
  pub some : t.start < t.end
  pub within : t.end ≤ length text
  pub in_range : t.kind ≡ Number → is_in_range (spelling text t) ≡ true

-- each token of a list is one in the text
pub record AreIn (text : List ℕ) (ts : List Token) : Type 0 where
  pub each : (i : ℕ) (t : Token) → slice_get ts i ≡ Some t → IsTokenIn text t

-- The tokens stand in the text from here on, one behind the other, and each is spelled as its kind says.
abbrev pub StandFrom : List ℕ → ℕ → List Token → Type 0
StandFrom text from [] = Unit {0}
StandFrom text from (t ∷ ts) =
    (from ≤ t.start) × IsTokenIn text t × ((preamble : Bool) × (spells preamble t.kind (spelling text t) ≡ true))
    × StandFrom text t.end ts
