-- What the trees of the grammar mean, one definition a rule: the instruction that a text is.
use Rattle.std.specs.Prelude.{List, [], ◌∷◌, ◌++◌, map, Option, Some, None}
use Rattle.grammar.specs.Rules.{Lexeme, Rule, Many, Tree}
use Rattle.clk_num.specs.declared.op.Cc.{Cc}
use Rattle.token_reader.specs.declared.raw.RawName.{RawName}
use Rattle.clif_insts.specs.declared.raw.RawArg.{RawArg}
use Rattle.clif_insts.specs.declared.raw.RawArg.TheVariants as raw_args
use Rattle.clif_insts.specs.declared.raw.RawTarget.{RawTarget}
use Rattle.clif_insts.specs.declared.raw.RawEntry.{RawEntry}
use Rattle.clif_insts.specs.declared.raw.RawFlag.{RawFlag}
use Rattle.clif_insts.specs.declared.raw.RawFlag.TheVariants as flag_words
use Rattle.clif_insts.specs.declared.raw.RawTrap.{RawTrap}
use Rattle.clif_insts.specs.declared.raw.RawTrap.TheVariants as traps
use Rattle.clif_words.specs.Terminals.{◌then◌, ◌or◌, value, ret, exn, big, little}
use Rattle.clif_insts.specs.Grammar.{any_trap, plain_flag, flags, call_to, target}
use Rattle.clif_insts.specs.Grammar.{normal_target, handler, entry_name, entry, table, args, target_list}
use Rattle.token_reader.specs.Reading.{name}
use Rattle.token_reader.specs.Values.{◌otherwise◌, perhaps, never, commas_value}
use Rattle.clif_insts.specs.Codes.{condition_of, trap_of}
use Rattle.clif_insts.specs.Flags.{flag_of}

abbrev pub condition_value : Lexeme → Cc
condition_value x = condition_of x.number

abbrev pub trap_value : Tree any_trap → RawTrap
trap_value = (λ x. trap_of x.number) otherwise (λ x. traps.User (name x))

abbrev pub args_value : Tree args → List RawName
args_value v = perhaps [] (commas_value value name) v.1.0

-- ---- flags

abbrev pub plain_flag_value : Tree plain_flag → RawFlag
plain_flag_value = (λ x. flag_of x.number) otherwise (λ x. flag_words.Vmctx) otherwise never

-- flags of which `big` or `little` is the first
abbrev pub from_big : Tree (big then Many (plain_flag or big)) → List RawFlag
from_big v = flag_words.Big ∷ map (plain_flag_value otherwise (λ x. flag_words.Big)) v.1

abbrev pub from_little : Tree (little then Many (plain_flag or little)) → List RawFlag
from_little v = flag_words.Little ∷ map (plain_flag_value otherwise (λ x. flag_words.Little)) v.1

abbrev pub flags_value : Tree flags → List RawFlag
flags_value v = map plain_flag_value v.0 ++ perhaps [] (from_big otherwise from_little) v.1

-- ---- targets

abbrev pub value_arg : Lexeme → RawArg
value_arg x = raw_args.Value (name x)

abbrev pub target_value : (arg : Rule) → (Tree arg → RawArg) → Tree (call_to arg) → RawTarget
target_value arg f v = record { block = name v.0; args = perhaps [] (λ w. perhaps [] (commas_value arg f) w.1.0) v.1 }

abbrev pub branch_value : Tree target → RawTarget
branch_value = target_value value value_arg

abbrev pub normal_value : Tree normal_target → RawTarget
normal_value = target_value (value or ret) (value_arg otherwise (λ x. raw_args.Ret (name x)))

abbrev pub handler_value : Tree handler → RawTarget
handler_value = target_value (value or exn) (value_arg otherwise (λ x. raw_args.Exn (name x)))

abbrev pub target_list_value : Tree target_list → List RawTarget
target_list_value v = perhaps [] (commas_value target branch_value) v.1.0

abbrev pub entry_name_value : Tree entry_name → Option RawName
entry_name_value = (λ x. Some (name x)) otherwise (λ x. None) otherwise never

abbrev pub entry_value : Tree entry → RawEntry
entry_value v = record { tag = entry_name_value v.0; target = handler_value v.1.1 }

abbrev pub table_value : Tree table → List RawEntry
table_value v = perhaps [] (commas_value entry entry_value) v.1.0
