-- The tokens of a text as the grammar sees them. Comments are passed over.
use Rattle.std.specs.Prelude.{ℕ, ◌==◌, Bool, true, false, if◌then◌else◌, List, [], ◌∷◌, drop, ℤ, pos, Option, Some}
use Rattle.std.specs.Prelude.{None, ◌≡◌}
use Rattle.grammar.specs.Rules.{Lexeme}
use Rattle.clif_lex.specs.declared.spans.TokenKind.{TokenKind}
use Rattle.clif_lex.specs.declared.spans.TokenKind.TheVariants as kinds
use Rattle.clif_lex.specs.declared.spans.Token.{Token}
use Rattle.clif_lex.specs.Bytes.{first, is_sign}
use Rattle.clif_lex.specs.Numbers.{spelled_number}
use Rattle.clif_lex.specs.Spans.{spelling}
use Rattle.clif_words.specs.declared.class.Class.{Class}
use Rattle.clif_words.specs.declared.class.Class.TheVariants.{Header, Name, Unsigned, Signed, Srcloc, Arrow, Other}
use Rattle.clif_words.specs.declared.class.Class.TheVariants.{LeftParen, RightParen, LeftBrace, RightBrace, LeftBracket}
use Rattle.clif_words.specs.declared.class.Class.TheVariants.{RightBracket, Comma, Colon, Equals, Dot, Less, Greater}
use Rattle.clif_words.specs.Classes.{code}
use Rattle.clif_words.specs.Words.{Meaning, means, word_meaning}

abbrev pub mark_class : ℕ → Class
mark_class byte =
    if byte == 40 then LeftParen else
    if byte == 41 then RightParen else
    if byte == 123 then LeftBrace else
    if byte == 125 then RightBrace else
    if byte == 91 then LeftBracket else
    if byte == 93 then RightBracket else
    if byte == 44 then Comma else
    if byte == 58 then Colon else
    if byte == 61 then Equals else
    if byte == 46 then Dot else
    if byte == 60 then Less else
    if byte == 62 then Greater else
    Other

abbrev pub number_class : List ℕ → Class
number_class number = if is_sign (first number) then Signed else Unsigned

-- what a token with this spelling is
abbrev pub meaning_of : TokenKind → List ℕ → Meaning
meaning_of kinds.Header s = means Header 0
meaning_of kinds.Comment s = means Other 0
meaning_of kinds.Name s = means Name 0
meaning_of kinds.Word s = word_meaning s
meaning_of kinds.Number s = means (number_class s) 0
meaning_of kinds.Srcloc s = means Srcloc 0
meaning_of kinds.Arrow s = means Arrow 0
meaning_of (kinds.Mark byte) s = means (mark_class byte) 0

abbrev pub meaning : List ℕ → Token → Meaning
meaning text token = meaning_of token.kind (spelling text token)

abbrev pub is_number : TokenKind → Bool
is_number kinds.Number = true
is_number kind = false

-- what a number spells
abbrev pub amount_of : TokenKind → List ℕ → ℤ
amount_of kind s = if is_number kind then spelled_number s else pos 0

-- what a name spells, without its `%`
abbrev pub name_of : TokenKind → List ℕ → List ℕ
name_of kinds.Name s = drop 1 s
name_of kind s = []

abbrev pub lexeme : List ℕ → Token → Lexeme
lexeme text token = record {
  class = code (meaning text token).class;
  number = (meaning text token).number;
  amount = amount_of token.kind (spelling text token);
  name = name_of token.kind (spelling text token);
  spot = token.start;
}

abbrev pub is_comment : TokenKind → Bool
is_comment kinds.Comment = true
is_comment kind = false

-- these tokens of the text
unfoldable pub lexemes : List ℕ → List Token → List Lexeme
lexemes text [] = []
lexemes text (t ∷ ts) = if is_comment t.kind then lexemes text ts else lexeme text t ∷ lexemes text ts

-- The tokens from here on begin with one that is no comment and has this meaning, or there are none.
abbrev pub Upcoming : List ℕ → List Token → Option Meaning → Type 0
Upcoming text [] next = next ≡ None
Upcoming text (t ∷ ts) next = (is_comment t.kind ≡ false) × (next ≡ Some (meaning text t))
