-- What `inline` reads and writes, and how it ends.
use Rattle.std.specs.Prelude.{◌≡◌, ℕ, List}
use Rattle.std.specs.Io.KnownBytes.{Appends}
use Rattle.clif_check.specs.Faults.{IsAccepted}
use Rattle.inline_pass.specs.Policy.{Policy}
use Rattle.inlined_reads.specs.Laws.{IsKept, inlined_text}
use Rattle.ir_core.specs.Module.{Module}
use Rattle.settings.specs.Settings.{InlineSettings}
use Rattle.clifinl.specs.declared.status.Status.{Status}
use Rattle.clifinl.specs.declared.status.Status.TheVariants.{Done}
use Rattle.clifinl.specs.Runs.{IsFirstFault, IsRun, Outside, ReadsWhole}

-- the size policy that the settings ask for
abbrev pub policy_of : InlineSettings → Policy
policy_of s = record { callee_size = s.callee_size; caller_size = s.caller_size }

-- The headline: the source's text reads as an accepted module; what was written is exactly the canonical text of its
-- finished bodies; and that text reads as these under canonical numbers and as nothing else, is accepted, and has the
-- outcomes of the module. The number of workers is in no part of it.
pub record HasInlined (p : Policy) (before after : Outside) : Type 0 where
  pub bytes : List ℕ
  pub meant : Module
  pub whole : ReadsWhole before.left after.left bytes
  pub accepted : IsAccepted bytes meant
  pub written : Appends before.written after.written (inlined_text p meant)
  pub kept : IsKept p meant

pub record IsInlineRun (s : InlineSettings) (before after : Outside) (status : Status) : Type 0 where
  pub run : IsRun IsAccepted IsFirstFault (inlined_text (policy_of s)) before after status
  pub headline : status ≡ Done → HasInlined (policy_of s) before after
