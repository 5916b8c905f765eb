-- The report of some commands.
use Rattle.std.specs.Prelude.{◌≡◌, ℕ, List, Option}
use Rattle.ir_core.specs.Module.{Module}
use Rattle.test_directives.specs.Commands.{Command}
use Rattle.test_directives.specs.Tests.{FunctionTests}
use Rattle.filetest.specs.declared.report.Report.{Report}
use Rattle.filetest.specs.Checks.{report_text, passed, failed, skipped}

pub record IsReportOf (m : Module) (ts : List FunctionTests) (faults : List (Option ℕ)) (cs : List Command)
    (report : Report) : Type 0 where
  pub text_is : report.text ≡ report_text m ts faults cs
  pub passed_is : report.passed ≡ passed m ts faults cs
  pub failed_is : report.failed ≡ failed m ts faults cs
  pub skipped_is : report.skipped ≡ skipped cs
