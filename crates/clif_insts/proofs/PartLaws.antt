-- Each part of an instruction is read as its rule of the grammar says.
use Rattle.std.proofs.Common.{cond, List, [], ◌∷◌, ◌++◌, map, Option, Some, None, Ok}
use Rattle.grammar.specs.Rules.{Lexeme, Rule, Opt, Many, Tree, Unsupported, Out, heads, firsts, ◌>>=◌}
use Rattle.clif_words.specs.declared.class.Class.{Class}
use Rattle.clif_words.specs.declared.class.Class.TheVariants as classes
use Rattle.clif_insts.specs.declared.targets.TargetRole.{TargetRole}
use Rattle.clif_insts.specs.declared.targets.TargetRole.TheVariants as roles
use Rattle.token_reader.specs.declared.raw.RawName.{RawName}
use Rattle.clif_insts.specs.declared.raw.RawArg.{RawArg}
use Rattle.clif_insts.specs.declared.raw.RawArg.TheVariants as raw_args
use Rattle.clif_insts.specs.declared.raw.RawTarget.{RawTarget}
use Rattle.clif_insts.specs.declared.raw.RawEntry.{RawEntry}
use Rattle.clif_words.specs.Terminals.{◌then◌, ◌or◌, one, value, comma, colon, ret, exn, ty_i64, left_paren, right_paren, signed}
use Rattle.token_reader.specs.Grammar.{commas}
use Rattle.clif_insts.specs.Grammar.{call_to, target, normal_target, handler, entry_name, entry, table, args, target_list}
use Rattle.token_reader.specs.Reading.{name, name_at}
use Rattle.clif_insts.specs.Arguments.{more_values_at, values_at, args_at}
use Rattle.clif_insts.specs.Targets.{arg_at, target_args_at, opt_target_args_at, target_at, target_list_at}
use Rattle.clif_insts.specs.Tables.{entry_tag_at, entry_at, table_at}
use Rattle.token_reader.specs.Values.{◌otherwise◌, perhaps, never, commas_value}
use Rattle.clif_insts.specs.Values.{args_value, value_arg, target_value, branch_value, normal_value, handler_value, target_list_value, entry_name_value, entry_value, table_value}
use Rattle.token_reader.proofs.Seen.{Is, then_is, map_is, opt_is, alt_is, refuse_is, name_is}
use Rattle.token_reader.proofs.TypeLaws.{more_is, commas_is}

-- a list between two tokens, which may be empty
pub within_is : {A : Type 0} {r : Rule} {f : Tree r → List A} {p : List Lexeme → Out (List A)} (left right : Class) → Is r f p
    → Is (one left then Opt r then one right) (λ v. perhaps [] f v.1.0)
    (λ ts. name_at left ts >>= λ l. cond (heads (firsts r) l.1) (p l.1) (Ok ([], l.1)) >>= λ vs. name_at right vs.1 >>= λ e. Ok (vs.0, e.1))
within_is {A} {r} {f} {p} left right e =
    then_is (name_is left) (Opt r then one right) (λ l v. perhaps [] f v.0)
    (λ l ts. cond (heads (firsts r) ts) (p ts) (Ok ([], ts)) >>= λ vs. name_at right vs.1 >>= λ e. Ok (vs.0, e.1))
    (λ l. then_is (opt_is e []) (one right) (λ vs v. vs) (λ vs ts. name_at right ts >>= λ e. Ok (vs, e.1)) (λ vs. map_is (name_is right) (λ e. vs)))

-- ---- values

pub values_is : Is (commas value) (commas_value value name) values_at
values_is = commas_is (name_is classes.Value)

pub more_values_is : (front : List RawName) → Is (Many (comma then value)) (λ vs. front ++ map (λ v. name v.1) vs) (more_values_at front)
more_values_is = more_is (name_is classes.Value)

pub args_is : Is args args_value args_at
unfolding args_at
args_is = within_is classes.LeftParen classes.RightParen values_is

-- ---- targets

branch_arg_is : Is value value_arg (arg_at roles.Branch)
unfolding arg_at
branch_arg_is = map_is (name_is classes.Value) raw_args.Value

normal_arg_is : Is (value or ret) (value_arg otherwise (λ x. raw_args.Ret (name x))) (arg_at roles.Normal)
unfolding arg_at
normal_arg_is = alt_is (map_is (name_is classes.Value) raw_args.Value) (map_is (name_is classes.Ret) raw_args.Ret)

handler_arg_is : Is (value or exn) (value_arg otherwise (λ x. raw_args.Exn (name x))) (arg_at roles.Handler)
unfolding arg_at
handler_arg_is = alt_is (map_is (name_is classes.Value) raw_args.Value) (map_is (name_is classes.Exn) raw_args.Exn)

abbrev Arguments : Rule → Rule
Arguments arg = left_paren then Opt (commas arg) then right_paren

abbrev arguments_value : (arg : Rule) → (Tree arg → RawArg) → Tree (Arguments arg) → List RawArg
arguments_value arg f v = perhaps [] (commas_value arg f) v.1.0

abbrev raw_target : RawName → List RawArg → RawTarget
raw_target b vs = record { block = b; args = vs }

target_is : (arg : Rule) (f : Tree arg → RawArg) (role : TargetRole) → Is (Arguments arg) (arguments_value arg f) (target_args_at role) → Is (call_to arg) (target_value arg f) (target_at role)
unfolding target_at opt_target_args_at
target_is arg f role e =
    then_is (name_is classes.Block) (Opt (Arguments arg)) (λ b v. raw_target b (perhaps [] (arguments_value arg f) v))
    (λ b ts. opt_target_args_at role ts >>= λ vs. Ok (raw_target b vs.0, vs.1))
    (λ b. map_is (opt_is e []) (λ vs. raw_target b vs))

branch_args_is : Is (Arguments value) (arguments_value value value_arg) (target_args_at roles.Branch)
unfolding target_args_at
branch_args_is = within_is classes.LeftParen classes.RightParen (commas_is branch_arg_is)

normal_args_is : Is (Arguments (value or ret)) (arguments_value (value or ret) (value_arg otherwise (λ x. raw_args.Ret (name x)))) (target_args_at roles.Normal)
unfolding target_args_at
normal_args_is = within_is classes.LeftParen classes.RightParen (commas_is normal_arg_is)

handler_args_is : Is (Arguments (value or exn)) (arguments_value (value or exn) (value_arg otherwise (λ x. raw_args.Exn (name x)))) (target_args_at roles.Handler)
unfolding target_args_at
handler_args_is = within_is classes.LeftParen classes.RightParen (commas_is handler_arg_is)

pub branch_is : Is target branch_value (target_at roles.Branch)
branch_is = target_is value value_arg roles.Branch branch_args_is

pub normal_is : Is normal_target normal_value (target_at roles.Normal)
normal_is = target_is (value or ret) (value_arg otherwise (λ x. raw_args.Ret (name x))) roles.Normal normal_args_is

handler_is : Is handler handler_value (target_at roles.Handler)
handler_is = target_is (value or exn) (value_arg otherwise (λ x. raw_args.Exn (name x))) roles.Handler handler_args_is

pub target_list_is : Is target_list target_list_value target_list_at
unfolding target_list_at
target_list_is = within_is classes.LeftBracket classes.RightBracket (commas_is branch_is)

-- ---- exception tables

entry_name_is : Is entry_name entry_name_value entry_tag_at
unfolding entry_tag_at
entry_name_is = alt_is (map_is (name_is classes.Tag) Some) (alt_is (map_is (name_is classes.Default) (λ x. None)) (refuse_is (classes.Context ∷ []) Unsupported never))

abbrev raw_entry : Option RawName → RawTarget → RawEntry
raw_entry t b = record { tag = t; target = b }

entry_is : Is entry entry_value entry_at
unfolding entry_at
entry_is =
    then_is entry_name_is (colon then handler) (λ t v. raw_entry t (handler_value v.1))
    (λ t ts. name_at classes.Colon ts >>= λ c. target_at roles.Handler c.1 >>= λ b. Ok (raw_entry t b.0, b.1))
    (λ t. then_is (name_is classes.Colon) handler (λ c v. raw_entry t (handler_value v)) (λ c ts. target_at roles.Handler ts >>= λ b. Ok (raw_entry t b.0, b.1))
    (λ c. map_is handler_is (λ b. raw_entry t b)))

pub table_is : Is table table_value table_at
unfolding table_at
table_is = within_is classes.LeftBracket classes.RightBracket (commas_is entry_is)
