-- Debug tags, read from left to right.
use Rattle.std.specs.Prelude.{if◌then◌else◌, List, [], ◌∷◌, Ok}
use Rattle.grammar.specs.Rules.{Lexeme, Out, heads, ◌>>=◌}
use Rattle.clif_words.specs.declared.class.Class.TheVariants as classes
use Rattle.clif_words.specs.Terminals.{codes_of}
use Rattle.token_reader.specs.Reading.{name_at, commas_at}
use Rattle.token_reader.specs.Numbers.{number_at}
use Rattle.clif_read.specs.declared.raw.RawTag.{RawTag}
use Rattle.clif_read.specs.declared.raw.RawTag.TheVariants as tag_kinds

unfoldable pub debug_tag_at : List Lexeme → Out RawTag
debug_tag_at ts =
    if heads (codes_of (classes.Unsigned ∷ classes.Signed ∷ [])) ts
    then (number_at ts >>= λ n. Ok (tag_kinds.User n.0, n.1))
    else (name_at classes.Slot ts >>= λ x. Ok (tag_kinds.Slot x.0, x.1))

unfoldable pub debug_tags_at : List Lexeme → Out (List RawTag)
debug_tags_at ts = do
  l ← name_at classes.Less ts
  tags ← commas_at debug_tag_at l.1
  g ← name_at classes.Greater tags.1
  Ok (tags.0, g.1)
