-- Blocks, functions and modules, read from left to right.
use Rattle.std.specs.Prelude.{Bool, true, false, if◌then◌else◌, List, [], ◌∷◌, length, Ok, Err}
use Rattle.grammar.specs.Rules.{Lexeme, Syntax, Out, heads_any, ◌>>=◌}
use Rattle.clif_words.specs.declared.class.Class.TheVariants as classes
use Rattle.clif_words.specs.Classes.{code}
use Rattle.token_reader.specs.Reading.{next_is, name_at, each, with_front}
use Rattle.clif_read.specs.declared.raw.RawBlockParam.{RawBlockParam}
use Rattle.clif_read.specs.declared.raw.RawBlock.{RawBlock}
use Rattle.clif_read.specs.declared.raw.RawFunction.{RawFunction}
use Rattle.clif_read.specs.declared.raw.RawModule.{RawModule}
use Rattle.clif_read.specs.Signatures.{signature_at}
use Rattle.clif_read.specs.Declarations.{func_name_at, decls_at}
use Rattle.clif_read.specs.Heads.{block_params_at, headers_at}
use Rattle.clif_read.specs.Lines.{lines_at}

unfoldable pub opt_block_params_at : List Lexeme → Out (List RawBlockParam)
opt_block_params_at ts = if next_is classes.LeftParen ts then block_params_at ts else Ok ([], ts)

-- whether `cold` stands there
unfoldable pub opt_cold_at : List Lexeme → Out Bool
opt_cold_at ts = if next_is classes.Cold ts then (name_at classes.Cold ts >>= λ c. Ok (true, c.1)) else Ok (false, ts)

unfoldable pub block_at : List Lexeme → Out RawBlock
block_at ts = do
  block ← name_at classes.Block ts
  params ← opt_block_params_at block.1
  cold ← opt_cold_at params.1
  colon ← name_at classes.Colon cold.1
  lines ← lines_at colon.1
  Ok (record { block = block.0; params = params.0; cold = cold.0; lines = lines.0 }, lines.1)

-- blocks, after those in front
unfoldable pub more_blocks_at : List RawBlock → List Lexeme → Out (List RawBlock)
more_blocks_at front ts = with_front front (each block_at (code classes.Block ∷ []) (length ts) ts)

unfoldable pub function_at : List Lexeme → Out RawFunction
function_at ts = do
  word ← name_at classes.Function ts
  name ← func_name_at word.1
  signature ← signature_at name.1
  left ← name_at classes.LeftBrace signature.1
  decls ← decls_at left.1
  first ← block_at decls.1
  blocks ← more_blocks_at (first.0 ∷ []) first.1
  right ← name_at classes.RightBrace blocks.1
  Ok (
    record {
      spot = word.0.spot;
      name = name.0;
      signature = signature.0;
      decls = decls.0;
      blocks = blocks.0;
      end_spot = right.0.spot;
    },
    right.1,
  )

unfoldable pub functions_at : List Lexeme → Out (List RawFunction)
functions_at ts = with_front [] (each function_at (code classes.Function ∷ []) (length ts) ts)

unfoldable pub module_at : List Lexeme → Out RawModule
module_at ts = do
  headers ← headers_at ts
  functions ← functions_at headers.1
  Ok (record { headers = headers.0; functions = functions.0 }, functions.1)

-- a module, and nothing behind it
unfoldable pub whole_module_at : List Lexeme → Out RawModule
whole_module_at ts = do
  m ← module_at ts
  if heads_any m.1 then Err (Syntax, m.1) else Ok m
