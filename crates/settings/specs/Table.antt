-- The command table: the commands and their options, as `clap` reads it.
use Rattle.std.specs.Prelude.{ℕ, false, true, List, [], ◌∷◌, codes}
use Rattle.clap.specs.Words.{App, Rule, Shape, Text, new_app}
use Rattle.clap.specs.Simple.{new_shape}
use Rattle.settings.specs.Options.{Number, flag, number_or, required_number, required_text, text_or_empty}

-- ---- the options with a number

abbrev pub callee_size : Number
callee_size = record { name = codes "callee-size"; least = 0; most = 262144 }

abbrev pub caller_size : Number
caller_size = record { name = codes "caller-size"; least = 0; most = 262144 }

abbrev pub workers : Number
workers = record { name = codes "workers"; least = 1; most = 64 }

abbrev pub memory : Number
memory = record { name = codes "memory"; least = 0; most = 16777216 }

abbrev pub steps : Number
steps = record { name = codes "steps"; least = 0; most = 1000000000 }

abbrev pub number : Number
number = record { name = codes "number"; least = 0; most = 18446744073709551615 }

abbrev pub functions : Number
functions = record { name = codes "functions"; least = 1; most = 20000 }

-- ---- the options of each command

abbrev pub inline_options : List Rule
inline_options =
    number_or callee_size (codes "64") ∷ number_or caller_size (codes "4096") ∷ number_or workers (codes "4") ∷ []

abbrev pub run_options : List Rule
run_options = required_text (codes "entry") ∷ text_or_empty (codes "args") ∷ text_or_empty (codes "script")
    ∷ number_or memory (codes "65536") ∷ number_or steps (codes "1000000") ∷ []

abbrev pub gen_options : List Rule
gen_options = number_or number (codes "0") ∷ required_number functions ∷ flag (codes "text") ∷ inline_options

-- ---- the table

abbrev pub command : Text → List Rule → Shape
command name options = record (new_shape name) { rules = options }

-- `clifinl` with these commands, one of which has to be named
abbrev pub table_of : List Shape → App
table_of commands =
    record {
      top = record (new_shape (codes "clifinl")) { is_leaf = false; subcommand_required = true };
      subs = commands;
    }

abbrev pub commands : List Shape
commands = command (codes "check") [] ∷ command (codes "print") [] ∷ command (codes "inline") inline_options
    ∷ command (codes "run") run_options ∷ command (codes "gen") gen_options ∷ command (codes "test") [] ∷ []

abbrev pub table : App
table = table_of commands
