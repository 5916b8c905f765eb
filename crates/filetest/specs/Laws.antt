-- What holds of the reports of texts.
use Rattle.std.specs.Prelude.{◌≡◌, ℕ, List, None}
use Rattle.clif_lex.specs.declared.spans.Token.{Token}
use Rattle.clif_read.specs.declared.raw.RawModule.{RawModule}
use Rattle.ir_core.specs.Module.{Module}
use Rattle.test_directives.specs.Tests.{bad_line}
use Rattle.filetest.specs.declared.report.Report.{Report}
use Rattle.filetest.specs.declared.testing.TestErr.{TestErr}
use Rattle.filetest.specs.declared.testing.TestErr.TheVariants.{NoMemory}
use Rattle.filetest.specs.Tested.{asked, needs_module, IsRaw, IsRefusal, IsReport, IsTestedModule}

-- the text has tokens, they are a raw module, no line of it is a bad directive, and where a command needs it, it is
-- accepted
pub record CanTest (text : List ℕ) : Type 0 where
  pub tokens : List Token
  pub raw : RawModule
  pub read : IsRaw text tokens raw
  pub good : bad_line text tokens raw ≡ None
  pub tested : Module
  pub is_tested : IsTestedModule (needs_module (asked text tokens)) raw tested

abbrev pub OneReport : Type 0
OneReport = (text : List ℕ) (r s : Report) → IsReport text r → IsReport text s → r ≡ s

abbrev pub ReportedCanBeTested : Type 0
ReportedCanBeTested = (text : List ℕ) (r : Report) → IsReport text r → CanTest text

abbrev pub CanTestIsNotRefused : Type 0
CanTestIsNotRefused = (text : List ℕ) (e : TestErr) → CanTest text → IsRefusal text e → e ≡ NoMemory
