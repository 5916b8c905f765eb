-- Signatures, read from left to right.
use Rattle.std.specs.Prelude.{if◌then◌else◌, List, [], ◌∷◌, Option, Some, None, Ok}
use Rattle.grammar.specs.Rules.{Lexeme, Out, heads, ◌>>=◌}
use Rattle.ir_core.specs.declared.signatures.Conv.{Conv}
use Rattle.ir_core.specs.declared.signatures.Conv.TheVariants as convs
use Rattle.clif_words.specs.declared.class.Class.{Class}
use Rattle.clif_words.specs.declared.class.Class.TheVariants as classes
use Rattle.clif_words.specs.Terminals.{codes_of}
use Rattle.token_reader.specs.Reading.{next_is, name_at, commas_at}
use Rattle.token_reader.specs.Types.{type_at}
use Rattle.clif_read.specs.declared.raw.RawParam.{RawParam}
use Rattle.clif_read.specs.declared.raw.RawSignature.{RawSignature}
use Rattle.clif_read.specs.DeclarationValues.{convention_of}
use Rattle.clif_read.specs.Attributes.{attributes_at}

-- ---- parameters

unfoldable pub param_at : List Lexeme → Out RawParam
param_at ts = do
  t ← type_at ts
  a ← attributes_at t.1
  Ok (record { ty = t.0; attributes = a.0 }, a.1)

abbrev pub params_at : List Lexeme → Out (List RawParam)
params_at = commas_at param_at

-- a type, or a word that is refused in its place
abbrev pub begins_type : List Class
begins_type = classes.Ty ∷ classes.TyI64 ∷ classes.RefusedType ∷ []

unfoldable pub opt_params_at : List Lexeme → Out (List RawParam)
opt_params_at ts = if heads (codes_of begins_type) ts then params_at ts else Ok ([], ts)

-- ---- results, conventions and signatures

unfoldable pub results_at : List Lexeme → Out (List RawParam)
results_at ts = do
  a ← name_at classes.Arrow ts
  params_at a.1

unfoldable pub opt_results_at : List Lexeme → Out (List RawParam)
opt_results_at ts = if next_is classes.Arrow ts then results_at ts else Ok ([], ts)

unfoldable pub convention_at : List Lexeme → Out Conv
convention_at ts =
    if next_is classes.Conv ts then (name_at classes.Conv ts >>= λ x. Ok (convention_of x.0.number, x.1))
    else (name_at classes.Cold ts >>= λ x. Ok (convs.Cold, x.1))

abbrev pub begins_convention : List Class
begins_convention = classes.Conv ∷ classes.Cold ∷ []

unfoldable pub opt_convention_at : List Lexeme → Out (Option Conv)
opt_convention_at ts =
    if heads (codes_of begins_convention) ts then (convention_at ts >>= λ c. Ok (Some c.0, c.1)) else Ok (None, ts)

unfoldable pub signature_at : List Lexeme → Out RawSignature
signature_at ts = do
  l ← name_at classes.LeftParen ts
  ps ← opt_params_at l.1
  r ← name_at classes.RightParen ps.1
  rs ← opt_results_at r.1
  c ← opt_convention_at rs.1
  Ok (record { params = ps.0; results = rs.0; conv = c.0 }, c.1)
