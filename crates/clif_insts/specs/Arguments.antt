-- Values behind one another, and the arguments of a call, read from left to right.
use Rattle.std.specs.Prelude.{if◌then◌else◌, List, [], Ok}
use Rattle.grammar.specs.Rules.{Lexeme, Out, ◌>>=◌}
use Rattle.clif_words.specs.declared.class.Class.TheVariants as classes
use Rattle.token_reader.specs.declared.raw.RawName.{RawName}
use Rattle.token_reader.specs.Reading.{next_is, name_at, more_at, commas_at}

-- names behind commas, after those in front
abbrev pub more_values_at : List RawName → List Lexeme → Out (List RawName)
more_values_at = more_at (name_at classes.Value)

abbrev pub values_at : List Lexeme → Out (List RawName)
values_at = commas_at (name_at classes.Value)

-- the values of a call
unfoldable pub args_at : List Lexeme → Out (List RawName)
args_at ts = do
  l ← name_at classes.LeftParen ts
  vs ← (if next_is classes.Value l.1 then values_at l.1 else Ok ([], l.1))
  r ← name_at classes.RightParen vs.1
  Ok (vs.0, r.1)
