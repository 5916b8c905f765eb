-- What `test` reads and writes, and how it ends: it carries out the tests of a text and writes the report.
use Rattle.std.specs.Prelude.{◌≡◌, ◌≢◌, ℕ, ◌==◌, ◌<◌, ◌≤◌, ◌⊎◌, ⊤, if◌then◌else◌, List, length, Option, Some}
use Rattle.std.specs.Io.KnownBytes.{Appends}
use Rattle.clk_flow.specs.Faults.{Rose}
use Rattle.clk_flow.specs.Whole.{AppendsPrefix}
use Rattle.clif_lex.specs.declared.faults.Place.{Place}
use Rattle.clif_lex.specs.declared.faults.TextKind.{TextKind}
use Rattle.filetest.specs.declared.report.Report.{Report}
use Rattle.filetest.specs.declared.testing.TestErr.TheVariants as err
use Rattle.filetest.specs.Laws.{CanTest}
use Rattle.filetest.specs.Tested.{IsRefusal, IsReport}
use Rattle.clifinl.specs.declared.status.Status.{Status}
use Rattle.clifinl.specs.declared.status.Status.TheVariants.{Done, Refused, ReadFault, WriteFault}
use Rattle.clifinl.specs.declared.status.Status.TheVariants.{NoMemory, ChecksFailed}
use Rattle.clifinl.specs.declared.status.Refusal.TheVariants.{BadDirective, TooLong}
use Rattle.clifinl.specs.Runs.{HasNoFault, IsOfText, IsPlaceOf, Outside, ReadsWhole, Stopped, most_bytes}

-- ---- reading

-- the report of the text that the source had
abbrev pub TookReport : (before after : Option (List ℕ)) → Report → Type 0
TookReport before after r = (bytes : List ℕ) × ReadsWhole before after bytes × IsReport bytes r

-- a fault of the text is why it has no report, and its byte stands there
abbrev pub IsTestFault : List ℕ → TextKind → Place → Type 0
IsTestFault text k place = (spot : ℕ) × IsRefusal text (err.Text k spot) × IsPlaceOf text spot place

-- why a run stopped before it wrote
abbrev pub HasNoReport : (before after : Option (List ℕ)) → (faults now : ℕ) → Status → Type 0
HasNoReport before after faults now (Refused (BadDirective line)) =
    (bytes : List ℕ) × ReadsWhole before after bytes × IsRefusal bytes (err.BadDirective line)
HasNoReport before after faults now status = Stopped IsTestFault before after faults now status

-- ---- writing

-- how a run ends that has this report: the whole of it is written, and then it counts whether each check held
abbrev pub ReportEnds : Report → (before after : Option (List ℕ)) → (faults now : ℕ) → Status → Type 0
ReportEnds r before after faults now Done = (r.failed ≡ 0) × Appends before after r.text
ReportEnds r before after faults now ChecksFailed = (r.failed ≢ 0) × Appends before after r.text
ReportEnds r before after faults now WriteFault = AppendsPrefix before after r.text × Rose faults now
ReportEnds r before after faults now status = ⊥

-- ---- the command

-- the source's text has a report, and this is how its run ends
abbrev pub EndsWithReport : Outside → Outside → Status → Type 0
EndsWithReport before after status =
    (r : Report) × TookReport before.left after.left r
    × ReportEnds r before.written after.written before.write_faults after.write_faults status

-- each status has its cause; a part of the report is written where the sink failed, and nothing where the run stopped
abbrev pub HasCause : Outside → Outside → Status → Type 0
HasCause before after Done = EndsWithReport before after Done
HasCause before after ChecksFailed = EndsWithReport before after ChecksFailed
HasCause before after WriteFault = EndsWithReport before after WriteFault
HasCause before after status = HasNoReport before.left after.left before.read_faults after.read_faults status

-- how a run ends that writes this report
abbrev pub end_of : Report → Status
end_of r = if r.failed == 0 then Done else ChecksFailed

-- a run ended with the status because of a line without a reading
abbrev pub IsBadDirective : Status → Type 0
IsBadDirective (Refused (BadDirective line)) = ⊤
IsBadDirective status = ⊥

pub record IsTestRun (before after : Outside) (status : Status) : Type 0 where
  pub cause : HasCause before after status
  -- where the source tells its bytes, they decide, unless the outside fails or memory runs out
  pub complete : (bytes : List ℕ) → before.left ≡ Some bytes → length bytes ≤ most_bytes → CanTest bytes
      → HasNoFault before after
      → ((r : Report) × IsReport bytes r × (status ≡ end_of r)) ⊎ (status ≡ NoMemory)
  pub refuses : (bytes : List ℕ) → before.left ≡ Some bytes → length bytes ≤ most_bytes
      → ((r : Report) → IsReport bytes r → ⊥)
      → (IsOfText status ⊎ IsBadDirective status) ⊎ ((status ≡ ReadFault) ⊎ (status ≡ NoMemory))
  pub too_long : (bytes : List ℕ) → before.left ≡ Some bytes → most_bytes < length bytes
      → (status ≡ Refused TooLong) ⊎ ((status ≡ ReadFault) ⊎ (status ≡ NoMemory))
