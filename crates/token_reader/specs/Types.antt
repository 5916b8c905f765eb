-- Types and suffixes, read from left to right.
use Rattle.std.specs.Prelude.{ℕ, ◌==◌, if◌then◌else◌, List, [], ◌∷◌, Option, Some, None, Ok}
use Rattle.grammar.specs.Rules.{Lexeme, Unsupported, Out, ◌>>=◌}
use Rattle.ir_core.specs.declared.signatures.Ty.{Ty}
use Rattle.ir_core.specs.declared.signatures.Ty.TheVariants as ty
use Rattle.clif_words.specs.declared.class.Class.TheVariants as classes
use Rattle.token_reader.specs.declared.raw.RawName.{RawName}
use Rattle.token_reader.specs.Reading.{next_is, name_at, refuse}

abbrev pub type_of : ℕ → Ty
type_of n = if n == 0 then ty.I8 else if n == 1 then ty.I16 else if n == 2 then ty.I32 else ty.I128

unfoldable pub type_at : List Lexeme → Out Ty
type_at ts =
    if next_is classes.Ty ts then (name_at classes.Ty ts >>= λ x. Ok (type_of x.0.number, x.1))
    else if next_is classes.TyI64 ts then (name_at classes.TyI64 ts >>= λ x. Ok (ty.I64, x.1))
    else refuse (classes.RefusedType ∷ []) Unsupported ts

unfoldable pub suffix_at : List Lexeme → Out Ty
suffix_at ts = do
  d ← name_at classes.Dot ts
  type_at d.1

unfoldable pub opt_suffix_at : List Lexeme → Out (Option Ty)
opt_suffix_at ts = if next_is classes.Dot ts then (suffix_at ts >>= λ t. Ok (Some t.0, t.1)) else Ok (None, ts)

-- i64, and no other type
unfoldable pub i64_at : List Lexeme → Out RawName
i64_at ts =
    if next_is classes.TyI64 ts then name_at classes.TyI64 ts else refuse (classes.RefusedType ∷ []) Unsupported ts

unfoldable pub suffix_i64_at : List Lexeme → Out RawName
suffix_i64_at ts = do
  d ← name_at classes.Dot ts
  i64_at d.1

unfoldable pub opt_suffix_i64_at : List Lexeme → Out (Option RawName)
opt_suffix_i64_at ts = if next_is classes.Dot ts then (suffix_i64_at ts >>= λ t. Ok (Some t.0, t.1)) else Ok (None, ts)
