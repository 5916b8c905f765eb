-- How the runs of `inline` end.
use Rattle.std.proofs.Common.{◌≤◌, subst}
use Rattle.clif_check.specs.Faults.{IsAccepted}
use Rattle.inlined_reads.specs.Laws.{InlinedIsKept, inlined_text}
use Rattle.settings.specs.Settings.{InlineSettings}
use Rattle.clifinl.specs.declared.status.Status.{Status}
use Rattle.clifinl.specs.declared.status.Status.TheVariants.{Done, NoMemory}
use Rattle.clifinl.specs.InlineCommand.{HasInlined, IsInlineRun, policy_of}
use Rattle.clifinl.specs.Runs.{IsFirstFault, IsRun, Outside}
use Rattle.clifinl.proofs.Runs as runs

pub out_of_memory : (s : InlineSettings) (before after : Outside) → IsInlineRun s before after NoMemory
out_of_memory s before after = record {
  run = runs.out_of_memory IsAccepted IsFirstFault (inlined_text (policy_of s)) before after;
  headline = λ is. absurd cc;
}

-- a run that is done is the headline's
headline : InlinedIsKept → (s : InlineSettings) → s.caller_size ≤ 262144 → (before after : Outside)
    → IsRun IsAccepted IsFirstFault (inlined_text (policy_of s)) before after Done → HasInlined (policy_of s) before after
headline law s small before after run =
    let (m, took, wrote) = run.cause in
    record {
      bytes = took.bytes;
      meant = m;
      whole = took.whole;
      accepted = took.takes;
      written = wrote;
      kept = law (policy_of s) small took.bytes m took.takes.reads took.takes.accepted;
    }

pub inline_run : InlinedIsKept → (s : InlineSettings) → s.caller_size ≤ 262144 → (before after : Outside) (status : Status)
    → IsRun IsAccepted IsFirstFault (inlined_text (policy_of s)) before after status → IsInlineRun s before after status
inline_run law s small before after status run = record {
  run = run;
  headline = λ is. headline law s small before after (subst (IsRun IsAccepted IsFirstFault (inlined_text (policy_of s)) before after) is run);
}
