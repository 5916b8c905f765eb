-- What a report in the making is told of a command.
use Rattle.std.specs.Prelude.{◌≡◌, ℕ, ◌+◌, Bool, true, false, List, ◌++◌, flat_map, Option}
use Rattle.ir_core.specs.Module.{Module}
use Rattle.test_directives.specs.Commands.{Command}
use Rattle.test_directives.specs.Tests.{FunctionTests}
use Rattle.filetest.specs.Report as report
use Rattle.filetest.specs.Telling.{Told}
use Rattle.filetest.specs.Checks.{checks_of, command_text, is_skipped, passed, failed, skipped}

abbrev pub one_if : Bool → ℕ
one_if true = 1
one_if false = 0

-- told of a command over a module, the tests of its functions, and the lines of their first faults
pub record IsCarriedOut (old new : Told) (m : Module) (ts : List FunctionTests) (faults : List (Option ℕ)) (c : Command)
    : Type 0 where
  pub text : new.text ≡ old.text ++ command_text m ts faults c
  pub passed : new.passed ≡ old.passed + report.passed (checks_of m ts faults c)
  pub failed : new.failed ≡ old.failed + report.failed (checks_of m ts faults c)
  pub skipped : new.skipped ≡ old.skipped + one_if (is_skipped c)

-- told of the commands that are left, too, it is as if it were told of all
pub record CarriesWith (old new : Told) (m : Module) (ts : List FunctionTests) (faults : List (Option ℕ))
    (left all : List Command) : Type 0 where
  pub text : new.text ++ flat_map (command_text m ts faults) left ≡ old.text ++ flat_map (command_text m ts faults) all
  pub passed : new.passed + passed m ts faults left ≡ old.passed + passed m ts faults all
  pub failed : new.failed + failed m ts faults left ≡ old.failed + failed m ts faults all
  pub skipped : new.skipped + skipped left ≡ old.skipped + skipped all
