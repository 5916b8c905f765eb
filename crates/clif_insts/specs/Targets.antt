-- Targets of branches, read from left to right.
use Rattle.std.specs.Prelude.{Bool, if◌then◌else◌, List, [], ◌∷◌, Ok}
use Rattle.grammar.specs.Rules.{Lexeme, Out, heads, ◌>>=◌}
use Rattle.clif_words.specs.declared.class.Class.TheVariants as classes
use Rattle.clif_insts.specs.declared.targets.TargetRole.{TargetRole}
use Rattle.clif_insts.specs.declared.targets.TargetRole.TheVariants as roles
use Rattle.clif_insts.specs.declared.raw.RawArg.{RawArg}
use Rattle.clif_insts.specs.declared.raw.RawArg.TheVariants as raw_args
use Rattle.clif_insts.specs.declared.raw.RawTarget.{RawTarget}
use Rattle.clif_words.specs.Terminals.{codes_of}
use Rattle.token_reader.specs.Reading.{next_is, name_at, commas_at}

-- an argument of a target, by the target's role
unfoldable pub arg_at : TargetRole → List Lexeme → Out RawArg
arg_at roles.Branch ts = name_at classes.Value ts >>= λ x. Ok (raw_args.Value x.0, x.1)
arg_at roles.Normal ts =
    if next_is classes.Value ts then (name_at classes.Value ts >>= λ x. Ok (raw_args.Value x.0, x.1))
    else (name_at classes.Ret ts >>= λ x. Ok (raw_args.Ret x.0, x.1))
arg_at roles.Handler ts =
    if next_is classes.Value ts then (name_at classes.Value ts >>= λ x. Ok (raw_args.Value x.0, x.1))
    else (name_at classes.Exn ts >>= λ x. Ok (raw_args.Exn x.0, x.1))

-- whether an argument begins here
abbrev pub begins_arg : TargetRole → List Lexeme → Bool
begins_arg roles.Branch ts = next_is classes.Value ts
begins_arg roles.Normal ts = heads (codes_of (classes.Value ∷ classes.Ret ∷ [])) ts
begins_arg roles.Handler ts = heads (codes_of (classes.Value ∷ classes.Exn ∷ [])) ts

unfoldable pub target_args_at : TargetRole → List Lexeme → Out (List RawArg)
target_args_at role ts = do
  l ← name_at classes.LeftParen ts
  vs ← (if begins_arg role l.1 then commas_at (arg_at role) l.1 else Ok ([], l.1))
  r ← name_at classes.RightParen vs.1
  Ok (vs.0, r.1)

unfoldable pub opt_target_args_at : TargetRole → List Lexeme → Out (List RawArg)
opt_target_args_at role ts = if next_is classes.LeftParen ts then target_args_at role ts else Ok ([], ts)

unfoldable pub target_at : TargetRole → List Lexeme → Out RawTarget
target_at role ts = do
  b ← name_at classes.Block ts
  vs ← opt_target_args_at role b.1
  Ok (record { block = b.0; args = vs.0 }, vs.1)

-- the list of a `br_table`
unfoldable pub target_list_at : List Lexeme → Out (List RawTarget)
target_list_at ts = do
  l ← name_at classes.LeftBracket ts
  vs ← (if next_is classes.Block l.1 then commas_at (target_at roles.Branch) l.1 else Ok ([], l.1))
  r ← name_at classes.RightBracket vs.1
  Ok (vs.0, r.1)
