-- What holds of canonical texts, and of two runs over the same bytes.
use Rattle.std.specs.Prelude.{◌≡◌, ◌≢◌, ◌⊎◌, ℕ, List, Some}
use Rattle.std.specs.Io.KnownBytes.{Appends}
use Rattle.clif_check.specs.Faults.{IsAccepted}
use Rattle.ir_core.specs.Module.{Module}
use Rattle.ir_core.specs.WellFormed.{IsModule}
use Rattle.ir_semantics.specs.Accepted.{Accepted}
use Rattle.ir_text.specs.Writable.{Writable}
use Rattle.settings.specs.Settings.{Settings}
use Rattle.clifinl.specs.declared.status.Status.{Status}
use Rattle.clifinl.specs.declared.status.Status.TheVariants.{Done, WriteFault, NoMemory, ChecksFailed}
use Rattle.clifinl.specs.Asked.{IsRunOf}
use Rattle.clifinl.specs.PrintCommand.{ReadsBack}
use Rattle.clifinl.specs.Runs.{HasNoFault, Outside}

-- ---- canonical texts

-- the canonical text of an accepted module that has one reads back
abbrev pub CanonicalReadsBack : Type 0
CanonicalReadsBack = (m : Module) → IsModule m → Writable m → Accepted m → ReadsBack m

-- so does that of what an accepted text reads as
abbrev pub PrintedReadsBack : Type 0
PrintedReadsBack = (text : List ℕ) (m : Module) → IsAccepted text m → ReadsBack m

-- ---- two runs

-- A run over a source that has these bytes: neither the source nor the sink failed, memory did not run out, and
-- nothing was written where the run was refused.
pub record IsWholeRun (s : Settings) (bytes : List ℕ) (before after : Outside) (status : Status) : Type 0 where
  pub told : before.left ≡ Some bytes
  pub run : IsRunOf s before after status
  pub nothing : (after.written ≡ before.written)
      ⊎ ((status ≡ Done) ⊎ ((status ≡ ChecksFailed) ⊎ (status ≡ WriteFault)))
  pub no_fault : HasNoFault before after
  pub enough_memory : status ≢ NoMemory

-- the runs of a command over the same bytes end the same and write the same
abbrev pub OneOutput : Type 0
OneOutput =
    (s : Settings) (bytes : List ℕ) (before after other later : Outside) (status end : Status)
    → IsWholeRun s bytes before after status → IsWholeRun s bytes other later end
    → (status ≡ end) × ((output : List ℕ)
    × Appends before.written after.written output × Appends other.written later.written output)
