-- The run of the command that the settings ask for.
use Rattle.std.specs.Prelude.{⊤}
use Rattle.clif_check.specs.Faults.{IsAccepted}
use Rattle.settings.specs.Settings.{Settings, Check, Print, Inline, Run, Gen, Test}
use Rattle.clifinl.specs.declared.status.Status.{Status}
use Rattle.clifinl.specs.declared.status.Status.TheVariants.{Refused}
use Rattle.clifinl.specs.declared.status.Refusal.TheVariants.{BadScript}
use Rattle.clifinl.specs.GenCommand.{IsGenRun}
use Rattle.clifinl.specs.InlineCommand.{IsInlineRun}
use Rattle.clifinl.specs.PrintCommand.{IsPrintRun}
use Rattle.clifinl.specs.RunCommand.{IsFunctionRun}
use Rattle.clifinl.specs.Runs.{IsFirstFault, IsRun, Outside, count_line}
use Rattle.clifinl.specs.TestCommand.{IsTestRun}

-- `gen` reads nothing, `test` takes texts that have a report, and the others take accepted texts
abbrev pub IsRunOf : Settings → Outside → Outside → Status → Type 0
IsRunOf Check = IsRun IsAccepted IsFirstFault count_line
IsRunOf Print = IsPrintRun
IsRunOf (Inline s) = IsInlineRun s
IsRunOf (Run s) = IsFunctionRun s
IsRunOf (Gen s) = IsGenRun s
IsRunOf Test = IsTestRun

-- a run that ends so has read nothing: `gen` never reads, and `run` reads its script first
abbrev pub ReadsNothing : Settings → Status → Type 0
ReadsNothing (Gen s) status = ⊤
ReadsNothing (Run s) (Refused (BadScript count)) = ⊤
ReadsNothing s status = ⊥
