-- Numbers and offsets, read from left to right.
use Rattle.std.specs.Prelude.{if◌then◌else◌, List, Option, Some, None, Ok}
use Rattle.grammar.specs.Rules.{Lexeme, Out, ◌>>=◌}
use Rattle.clif_words.specs.declared.class.Class.TheVariants as classes
use Rattle.token_reader.specs.declared.raw.RawNumber.{RawNumber}
use Rattle.token_reader.specs.Reading.{next_is, amount_at}

unfoldable pub number_at : List Lexeme → Out RawNumber
number_at ts = if next_is classes.Unsigned ts then amount_at classes.Unsigned ts else amount_at classes.Signed ts

unfoldable pub offset_at : List Lexeme → Out (Option RawNumber)
offset_at ts =
    if next_is classes.Signed ts then (amount_at classes.Signed ts >>= λ x. Ok (Some x.0, x.1)) else Ok (None, ts)
