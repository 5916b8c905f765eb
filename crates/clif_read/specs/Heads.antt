-- What stands at the head of a module and of a block, read from left to right.
use Rattle.std.specs.Prelude.{ℕ, if◌then◌else◌, List, [], ◌∷◌, length, Ok}
use Rattle.grammar.specs.Rules.{Lexeme, Out, ◌>>=◌}
use Rattle.clif_words.specs.declared.class.Class.TheVariants as classes
use Rattle.clif_words.specs.Classes.{code}
use Rattle.token_reader.specs.Reading.{next_is, name_at, each, with_front, commas_at}
use Rattle.token_reader.specs.Types.{type_at}
use Rattle.clif_read.specs.declared.raw.RawBlockParam.{RawBlockParam}

-- ---- headers

-- the spot of a header
unfoldable pub header_at : List Lexeme → Out ℕ
header_at ts = do
  x ← name_at classes.Header ts
  Ok (x.0.spot, x.1)

unfoldable pub headers_at : List Lexeme → Out (List ℕ)
headers_at ts = with_front [] (each header_at (code classes.Header ∷ []) (length ts) ts)

-- ---- parameters of blocks

-- v0: i64
unfoldable pub block_param_at : List Lexeme → Out RawBlockParam
block_param_at ts = do
  v ← name_at classes.Value ts
  c ← name_at classes.Colon v.1
  t ← type_at c.1
  Ok (record { value = v.0; ty = t.0 }, t.1)

-- (v0: i64, v1: i32)
unfoldable pub block_params_at : List Lexeme → Out (List RawBlockParam)
block_params_at ts = do
  l ← name_at classes.LeftParen ts
  ps ← (if next_is classes.Value l.1 then commas_at block_param_at l.1 else Ok ([], l.1))
  r ← name_at classes.RightParen ps.1
  Ok (ps.0, r.1)
