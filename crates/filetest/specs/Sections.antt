-- What was told of each command that was carried out.
use Rattle.std.specs.Prelude.{ℕ, List, [], Option}
use Rattle.std.specs.List.{AllByRecursion}
use Rattle.ir_core.specs.Module.{Module}
use Rattle.test_directives.specs.Commands as command
use Rattle.test_directives.specs.Commands.{Command}
use Rattle.test_directives.specs.Tests.{FunctionTests}
use Rattle.filetest.specs.declared.sections.Kind.{Kind}
use Rattle.filetest.specs.declared.sections.Kind.TheVariants as kind
use Rattle.filetest.specs.declared.sections.Sections.{Sections}
use Rattle.filetest.specs.Telling.{Told}
use Rattle.filetest.specs.Carrying.{IsCarriedOut}

abbrev pub command_by : Kind → Command
command_by kind.Cat = command.Cat
command_by kind.Verifier = command.Verifier
command_by kind.Interpret = command.Interpret
command_by kind.Run = command.Run
command_by (kind.Inline precise callee_size caller_size) =
    command.Inline (record { precise = precise; callee_size = callee_size; caller_size = caller_size })

-- a report in the making that was told nothing
abbrev pub nothing_told : Told
nothing_told = record { text = []; passed = 0; failed = 0; skipped = 0 }

-- each section tells of its kind of command, and of nothing else
abbrev pub AreSections : Module → List FunctionTests → List (Option ℕ) → Sections → Type 0
AreSections m ts faults sections =
    AllByRecursion (λ e. IsCarriedOut nothing_told e.1 m ts faults (command_by e.0)) sections.told.entries
