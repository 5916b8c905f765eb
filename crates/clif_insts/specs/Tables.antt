-- Exception tables, read from left to right.
use Rattle.std.specs.Prelude.{Bool, if◌then◌else◌, List, [], ◌∷◌, Option, Some, None, Ok}
use Rattle.grammar.specs.Rules.{Lexeme, Unsupported, Out, heads, ◌>>=◌}
use Rattle.clif_words.specs.declared.class.Class.TheVariants as classes
use Rattle.clif_insts.specs.declared.targets.TargetRole.TheVariants as roles
use Rattle.token_reader.specs.declared.raw.RawName.{RawName}
use Rattle.clif_insts.specs.declared.raw.RawEntry.{RawEntry}
use Rattle.clif_words.specs.Terminals.{codes_of}
use Rattle.token_reader.specs.Reading.{next_is, name_at, commas_at, refuse}
use Rattle.clif_insts.specs.Targets.{target_at}

unfoldable pub entry_tag_at : List Lexeme → Out (Option RawName)
entry_tag_at ts =
    if next_is classes.Tag ts then (name_at classes.Tag ts >>= λ x. Ok (Some x.0, x.1))
    else if next_is classes.Default ts then (name_at classes.Default ts >>= λ x. Ok (None, x.1))
    else refuse (classes.Context ∷ []) Unsupported ts

unfoldable pub entry_at : List Lexeme → Out RawEntry
entry_at ts = do
  t ← entry_tag_at ts
  c ← name_at classes.Colon t.1
  b ← target_at roles.Handler c.1
  Ok (record { tag = t.0; target = b.0 }, b.1)

abbrev pub begins_entry : List Lexeme → Bool
begins_entry ts = heads (codes_of (classes.Tag ∷ classes.Default ∷ classes.Context ∷ [])) ts

unfoldable pub table_at : List Lexeme → Out (List RawEntry)
table_at ts = do
  l ← name_at classes.LeftBracket ts
  es ← (if begins_entry l.1 then commas_at entry_at l.1 else Ok ([], l.1))
  r ← name_at classes.RightBracket es.1
  Ok (es.0, r.1)
