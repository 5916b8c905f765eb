-- What a report in the making is told.
use Rattle.std.specs.Prelude.{◌≡◌, ℕ, ◌+◌, ◌≤◌, List, ◌++◌, length, flat_map}
use Rattle.test_directives.specs.Commands.{Command}
use Rattle.filetest.specs.Report.{Check, check_text, passed, failed}

-- a report in the making: its text so far, and what it has counted
pub record Told : Type 0 where
  pub text : List ℕ
  pub passed : ℕ
  pub failed : ℕ
  pub skipped : ℕ

-- told of these checks, and then of those that are left, it is as if it were told of all
pub record TellsWith (old new : Told) (command : Command) (left all : List Check) : Type 0 where
  pub text : new.text ++ flat_map (check_text command) left
      ≡ old.text ++ flat_map (check_text command) all
  pub passed : new.passed + passed left ≡ old.passed + passed all
  pub failed : new.failed + failed left ≡ old.failed + failed all
  pub skipped : new.skipped ≡ old.skipped

-- told of these checks
pub record Tells (old new : Told) (command : Command) (cs : List Check) : Type 0 where
  pub text : new.text ≡ old.text ++ flat_map (check_text command) cs
  pub passed : new.passed ≡ old.passed + passed cs
  pub failed : new.failed ≡ old.failed + failed cs
  pub skipped : new.skipped ≡ old.skipped

-- the text is longer by these bytes, and the counts are the same; each line was counted at most once
pub record Puts (old new : Told) (bytes : List ℕ) : Type 0 where
  pub counted : old.passed + old.failed + old.skipped ≤ length old.text
  pub text : new.text ≡ old.text ++ bytes
  pub passed : new.passed ≡ old.passed
  pub failed : new.failed ≡ old.failed
  pub skipped : new.skipped ≡ old.skipped
