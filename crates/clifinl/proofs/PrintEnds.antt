-- How the runs of `print` end.
use Rattle.std.proofs.Common.{subst}
use Rattle.clif_check.specs.Faults.{IsAccepted}
use Rattle.ir_text.specs.Text.{text_of}
use Rattle.clifinl.specs.declared.status.Status.{Status}
use Rattle.clifinl.specs.declared.status.Status.TheVariants.{Done, NoMemory}
use Rattle.clifinl.specs.Laws.{PrintedReadsBack}
use Rattle.clifinl.specs.PrintCommand.{HasPrinted, IsPrintRun}
use Rattle.clifinl.specs.Runs.{IsFirstFault, IsRun, Outside}
use Rattle.clifinl.proofs.Runs as runs

pub out_of_memory : (before after : Outside) → IsPrintRun before after NoMemory
out_of_memory before after = record {
  run = runs.out_of_memory IsAccepted IsFirstFault text_of before after;
  headline = λ is. absurd cc;
}

-- a run that is done is the headline's
headline : PrintedReadsBack → (before after : Outside) → IsRun IsAccepted IsFirstFault text_of before after Done → HasPrinted before after
headline law before after run =
    let (m, took, wrote) = run.cause in
    record {
      bytes = took.bytes;
      meant = m;
      whole = took.whole;
      accepted = took.takes;
      written = wrote;
      back = law took.bytes m took.takes;
    }

pub print_run : PrintedReadsBack → (before after : Outside) (status : Status) → IsRun IsAccepted IsFirstFault text_of before after status → IsPrintRun before after status
print_run law before after status run = record {
  run = run;
  headline = λ is. headline law before after (subst (IsRun IsAccepted IsFirstFault text_of before after) is run);
}
