-- What a token of a text is to the grammar of scripts.
use Rattle.std.specs.Prelude.{ℕ, nat_lt, if◌then◌else◌, ◌==◌, List, [], codes, ℤ, pos}
use Rattle.std.specs.Int.RustNames.{int_lt, int_le}
use Rattle.std.specs.Str.{bytes_eq}
use Rattle.grammar.specs.Rules.{Lexeme}
use Rattle.clif_lex.specs.declared.spans.TokenKind.{TokenKind}
use Rattle.clif_lex.specs.declared.spans.TokenKind.TheVariants as kinds
use Rattle.clif_lex.specs.declared.spans.Token.{Token}
use Rattle.clif_lex.specs.Numbers.{spelled_number}
use Rattle.clif_lex.specs.Spans.{spelling}
use Rattle.clif_words.specs.declared.class.Class.{Class}
use Rattle.clif_words.specs.declared.class.Class.TheVariants as words
use Rattle.clif_words.specs.Words.{Meaning, word_meaning}
use Rattle.clk_num.specs.Numbers.{fits, wrapped}
use Rattle.script_text.specs.declared.symbol.Symbol.{Symbol}
use Rattle.script_text.specs.declared.terminal.Terminal.{Terminal}
use Rattle.script_text.specs.declared.terminal.Terminal.TheVariants as terminals
use Rattle.script_text.specs.Terminals.{code}

-- the greatest numbers of `userN` and `tagN`
abbrev pub most_user : ℕ
most_user = 65535

abbrev pub most_tag : ℕ
most_tag = 4294967294

abbrev pub symbol : Terminal → ℕ → ℤ → ℕ → Lexeme
symbol terminal number amount spot = record {
  class = code terminal;
  number = number;
  amount = amount;
  name = [];
  spot = spot;
}

-- a token of which nothing but its terminal counts
abbrev pub plain : Terminal → ℕ → Lexeme
plain terminal spot = symbol terminal 0 (pos 0) spot

-- a word with a number, which is at most `most`
abbrev pub limited : Terminal → ℕ → ℕ → ℕ → Lexeme
limited terminal most number spot =
    if nat_lt most number then plain terminals.Other spot else symbol terminal number (pos 0) spot

-- a word that CLIF has too
abbrev pub clif_word : Class → ℕ → ℕ → Lexeme
clif_word words.Return number spot = plain terminals.Return spot
clif_word words.Trap number spot = plain terminals.Trap spot
clif_word words.TrapCode number spot = symbol terminals.TrapCode number (pos 0) spot
clif_word words.UserTrap number spot = limited terminals.UserTrap most_user number spot
clif_word words.Tag number spot = limited terminals.Tag most_tag number spot
clif_word class number spot = plain terminals.Other spot

abbrev pub by_meaning : Meaning → ℕ → Lexeme
by_meaning m spot = clif_word m.class m.number spot

unfoldable pub word : List ℕ → ℕ → Lexeme
word spelled spot =
    if bytes_eq spelled (codes "throw") then plain terminals.Throw spot else by_meaning (word_meaning spelled) spot

-- the terminal of a number by its size
abbrev pub number_terminal : ℤ → Terminal
number_terminal z =
    if int_lt z (pos 0) then terminals.Negative else if int_le z (pos 255) then terminals.Byte else terminals.Large

-- a number of 64 bits, with a sign or without
unfoldable pub number : ℤ → ℕ → Lexeme
number z spot = if fits 64 z then symbol (number_terminal z) (wrapped 64 z) z spot else plain terminals.Other spot

abbrev pub mark_terminal : ℕ → Terminal
mark_terminal byte =
    if byte == 40 then terminals.LeftParen else
    if byte == 41 then terminals.RightParen else
    if byte == 91 then terminals.LeftBracket else
    if byte == 93 then terminals.RightBracket else
    if byte == 44 then terminals.Comma else
    if byte == 58 then terminals.Colon else
    terminals.Other

-- A token with this spelling. A header, a comment, a name, a location and an arrow stand in no script.
abbrev pub of_kind : TokenKind → List ℕ → ℕ → Lexeme
of_kind kinds.Word spelled spot = word spelled spot
of_kind kinds.Number spelled spot = number (spelled_number spelled) spot
of_kind (kinds.Mark byte) spelled spot = plain (mark_terminal byte) spot
of_kind kind spelled spot = plain terminals.Other spot

abbrev pub lexeme : List ℕ → Token → Lexeme
lexeme text token = of_kind token.kind (spelling text token) token.start

-- the code's symbol, as the grammar sees it
abbrev pub lexeme_of : Symbol → Lexeme
lexeme_of p = symbol p.terminal p.number p.amount p.spot
