-- The settings that words mean: `clap`'s function of the command table.
use Rattle.std.specs.Prelude.{◌≡◌, List, [], ◌∷◌, Option, Some, None, codes, if◌then◌else◌, option_map, string_bytes}
use Rattle.std.specs.Str.{bytes_eq}
use Rattle.clap.specs.Words.{Row, Text, Kinds, fault_of, first_of, subcommand_of}
use Rattle.settings.specs.Options.{given, is_set, number_in}
use Rattle.settings.specs.Settings.{Settings, Check, Print, Inline, Run, Gen, Test}
use Rattle.settings.specs.Settings.{InlineSettings, RunSettings, GenSettings}
use Rattle.settings.specs.Table.{table, callee_size, caller_size, workers, memory, steps, number, functions}

-- ---- by the rows of the options

abbrev pub inline_settings : List Row → Option InlineSettings
inline_settings rows =
    given (number_in callee_size rows) (λ callee.
    given (number_in caller_size rows) (λ caller.
    given (number_in workers rows) (λ count.
    Some (record { callee_size = callee; caller_size = caller; workers = count }))))

abbrev pub run_settings : List Row → Option RunSettings
run_settings rows =
    given (first_of (codes "entry") rows) (λ function.
    given (first_of (codes "args") rows) (λ values.
    given (first_of (codes "script") rows) (λ answers.
    given (number_in memory rows) (λ bytes.
    given (number_in steps rows) (λ most.
    Some (record { entry = function; args = values; script = answers; memory = bytes; steps = most }))))))

abbrev pub gen_settings : List Row → Option GenSettings
gen_settings rows =
    given (number_in number rows) (λ start.
    given (number_in functions rows) (λ count.
    given (inline_settings rows) (λ options.
    Some (record { number = start; functions = count; text = is_set (codes "text") rows; pass = options }))))

-- ---- by the command

abbrev pub settings_named : Text → List Row → Option Settings
settings_named name rows =
    if bytes_eq name (codes "check") then Some Check
    else if bytes_eq name (codes "print") then Some Print
    else if bytes_eq name (codes "inline") then option_map (λ s. Inline s) (inline_settings rows)
    else if bytes_eq name (codes "run") then option_map (λ s. Run s) (run_settings rows)
    else if bytes_eq name (codes "gen") then option_map (λ s. Gen s) (gen_settings rows)
    else if bytes_eq name (codes "test") then Some Test
    else None

abbrev pub settings_at : Option (Text × List Row) → Option Settings
settings_at None = None
settings_at (Some (name, rows)) = settings_named name rows

-- ---- by the words

abbrev pub settings_from : Kinds → Option (Text × List Row) → Option Settings
settings_from [] command = settings_at command
settings_from (fault ∷ faults) command = None

-- words have settings where `clap` finds no fault in them by the table
abbrev pub settings_of : List Text → Option Settings
settings_of words = settings_from (fault_of table words) (subcommand_of table words)
