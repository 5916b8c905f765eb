-- Names of functions, as `%f`, read from left to right.
use Rattle.std.specs.Prelude.{List, Ok}
use Rattle.grammar.specs.Rules.{Lexeme, Out, token, ◌>>=◌}
use Rattle.clif_words.specs.declared.class.Class.{Class}
use Rattle.clif_words.specs.Classes.{code}
use Rattle.token_reader.specs.declared.raw.RawText.{RawText}

-- what a name spells
abbrev pub text : Lexeme → RawText
text x = record { bytes = x.name; spot = x.spot }

unfoldable pub text_at : Class → List Lexeme → Out RawText
text_at class ts = do
  x ← token (code class) ts
  Ok (text x.0, x.1)
