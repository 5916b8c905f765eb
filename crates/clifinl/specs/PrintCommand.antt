-- What `print` reads and writes, and how it ends.
use Rattle.std.specs.Prelude.{◌≡◌, ℕ, List}
use Rattle.std.specs.Io.KnownBytes.{Appends}
use Rattle.clif_check.specs.Faults.{IsAccepted}
use Rattle.clif_meaning.specs.Reads.{Reads}
use Rattle.ir_core.specs.Module.{Module}
use Rattle.ir_semantics.specs.Accepted.{Accepted}
use Rattle.ir_semantics.specs.Canon.{canonical_module}
use Rattle.ir_text.specs.Text.{text_of}
use Rattle.clifinl.specs.declared.status.Status.{Status}
use Rattle.clifinl.specs.declared.status.Status.TheVariants.{Done}
use Rattle.clifinl.specs.Runs.{IsFirstFault, IsRun, Outside, ReadsWhole}

-- the canonical text of the module reads as it under canonical numbers and as nothing else, and is accepted
pub record ReadsBack (m : Module) : Type 0 where
  pub reads : Reads (text_of m) (canonical_module m)
  pub nothing_else : (n : Module) → Reads (text_of m) n → n ≡ canonical_module m
  pub accepted : Accepted (canonical_module m)

-- The headline: the source's text reads as an accepted module; what was written is exactly its canonical text; and that
-- text reads back.
pub record HasPrinted (before after : Outside) : Type 0 where
  pub bytes : List ℕ
  pub meant : Module
  pub whole : ReadsWhole before.left after.left bytes
  pub accepted : IsAccepted bytes meant
  pub written : Appends before.written after.written (text_of meant)
  pub back : ReadsBack meant

pub record IsPrintRun (before after : Outside) (status : Status) : Type 0 where
  pub run : IsRun IsAccepted IsFirstFault text_of before after status
  pub headline : status ≡ Done → HasPrinted before after
