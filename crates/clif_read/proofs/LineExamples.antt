-- The lines of a block on examples: the tokens of a short text, and which lines they are or where they stop.
use Rattle.std.proofs.Common.{◌≡◌, ℕ, List, [], ◌∷◌, Some, None, Ok, Err, refl}
use Rattle.std.specs.Prelude.{pos, Result}
use Rattle.grammar.specs.Rules.{Lexeme, Kind, Syntax, UnknownOpcode, read_all, ◌>>=◌}
use Rattle.clif_words.specs.declared.class.Class.{Class}
use Rattle.clif_words.specs.declared.class.Class.TheVariants as classes
use Rattle.clif_words.specs.Classes.{code}
use Rattle.token_reader.specs.declared.raw.RawName.{RawName}
use Rattle.clif_insts.specs.declared.raw.RawOperands.TheVariants as operands
use Rattle.token_reader.specs.Reading.{opcode}
use Rattle.clif_insts.specs.InstValues.{raw}
use Rattle.clif_read.specs.declared.raw.RawLine.{RawLine}
use Rattle.clif_read.specs.declared.raw.RawLine.TheVariants as raw_lines
use Rattle.clif_read.specs.ModuleGrammar.{lines}
use Rattle.clif_read.specs.LineValues.{lines_value}

abbrev word : Class → ℕ → ℕ → Lexeme
word class n spot = record { class = code class; number = n; amount = pos 0; name = []; spot = spot }

abbrev some_lines : List Lexeme → Result (List RawLine) (Kind × List Lexeme)
some_lines ts = read_all lines ts >>= λ v. Ok (lines_value v)

abbrev named : ℕ → ℕ → RawName
named n spot = record { number = n; spot = spot }

abbrev returned : ℕ → List RawName → RawLine
returned spot values = raw_lines.Inst None [] [] (raw (opcode (word classes.Return 0 spot)) None (operands.Return values))

-- `return v0, v1`
own_values : some_lines (word classes.Return 0 0 ∷ word classes.Value 0 7 ∷ word classes.Comma 0 9 ∷ word classes.Value 1 11 ∷ []) ≡ Ok (returned 0 (named 0 7 ∷ named 1 11 ∷ []) ∷ [])
own_values = refl

-- `return v0 return`
two_returns : some_lines (word classes.Return 0 0 ∷ word classes.Value 0 7 ∷ word classes.Return 0 10 ∷ []) ≡ Ok (returned 0 (named 0 7 ∷ []) ∷ returned 10 [] ∷ [])
two_returns = refl

-- `return v0 = nop`: the value is the result of the next line
result_behind : some_lines (word classes.Return 0 0 ∷ word classes.Value 0 7 ∷ word classes.Equals 0 10 ∷ word classes.Nullary 0 12 ∷ [])
    ≡ Ok (returned 0 [] ∷ raw_lines.Inst None [] (named 0 7 ∷ []) (raw (opcode (word classes.Nullary 0 12)) None operands.Nullary) ∷ [])
result_behind = refl

-- `return v0 -> v1`: the value is the alias of the next line
alias_behind : some_lines (word classes.Return 0 0 ∷ word classes.Value 0 7 ∷ word classes.Arrow 0 10 ∷ word classes.Value 1 13 ∷ []) ≡ Ok (returned 0 [] ∷ raw_lines.Alias None (named 0 7) (named 1 13) ∷ [])
alias_behind = refl

-- `return v0, v1 -> v2`: at the arrow
no_alias_of_two : some_lines (word classes.Return 0 0 ∷ word classes.Value 0 7 ∷ word classes.Comma 0 9 ∷ word classes.Value 1 11 ∷ word classes.Arrow 0 14 ∷ word classes.Value 2 17 ∷ []) ≡ Err (Syntax, word classes.Arrow 0 14 ∷ word classes.Value 2 17 ∷ [])
no_alias_of_two = refl

-- `return ret0`
word_behind : some_lines (word classes.Return 0 0 ∷ word classes.Ret 0 7 ∷ []) ≡ Err (UnknownOpcode, word classes.Ret 0 7 ∷ [])
word_behind = refl

-- `@0a v1 -> v0` and `@0a block1`
located_alias : some_lines (word classes.Srcloc 0 0 ∷ word classes.Value 1 4 ∷ word classes.Arrow 0 7 ∷ word classes.Value 0 10 ∷ []) ≡ Ok (raw_lines.Alias (Some 0) (named 1 4) (named 0 10) ∷ [])
located_alias = refl

located_block : some_lines (word classes.Srcloc 0 0 ∷ word classes.Block 1 4 ∷ []) ≡ Err (UnknownOpcode, word classes.Block 1 4 ∷ [])
located_block = refl
