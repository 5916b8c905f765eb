-- The tokens of a text as the grammar of scripts sees them.
use Rattle.std.specs.Prelude.{◌≡◌, ℕ, true, List, [], ◌∷◌, ◌++◌, map, take, Result, Ok, Err}
use Rattle.grammar.specs.Rules.{Lexeme}
use Rattle.clif_lex.specs.declared.spans.Token.{Token}
use Rattle.clif_lex.specs.declared.faults.LexErr.{LexErr}
use Rattle.clif_lex.specs.declared.faults.LexErr.TheVariants.{BadChar, BadNumber, NoMemory}
use Rattle.clif_lex.specs.Lexing.{tokens_of}
use Rattle.clif_lex.specs.Spelling.{IsDivided, IsAtFault}
use Rattle.script_text.specs.declared.terminal.Terminal.TheVariants.{Other}
use Rattle.script_text.specs.Symbols.{lexeme, plain}

abbrev pub symbols : List ℕ → List Token → List Lexeme
symbols text tokens = map (lexeme text) tokens

-- where there are none, there are no tokens
abbrev pub or_none : Result (List Token) LexErr → List Token
or_none (Ok tokens) = tokens
or_none (Err fault) = []

-- the tokens before a place where none stands, and there one that stands in no script
abbrev pub symbols_before : List ℕ → ℕ → List Lexeme
symbols_before text spot = symbols (take spot text) (or_none (tokens_of (take spot text))) ++ plain Other spot ∷ []

abbrev pub lexed_by : List ℕ → Result (List Token) LexErr → List Lexeme
lexed_by text (Ok tokens) = symbols text tokens
lexed_by text (Err (BadChar spot)) = symbols_before text spot
lexed_by text (Err (BadNumber spot)) = symbols_before text spot
lexed_by text (Err NoMemory) = []

-- The tokens of a text. Where no token stands at a place, there are those of the text before it, and one that stands in
-- no script.
unfoldable pub lexed : List ℕ → List Lexeme
lexed text = lexed_by text (tokens_of text)

-- the tokens before this place are those that stand in the whole text up to there
abbrev pub AreBefore : List ℕ → LexErr → ℕ → Type 0
AreBefore text fault spot =
    (ts : List Token) × (tokens_of (take spot text) ≡ Ok ts) × IsDivided (IsAtFault fault) true 0 text ts

-- a fault is a place where no token stands
abbrev pub TokensBefore : List ℕ → LexErr → Type 0
TokensBefore text (BadChar spot) = AreBefore text (BadChar spot) spot
TokensBefore text (BadNumber spot) = AreBefore text (BadNumber spot) spot
TokensBefore text NoMemory = ⊥
