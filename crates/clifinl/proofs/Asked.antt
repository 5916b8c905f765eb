-- Runs by the command.
use Rattle.std.proofs.Common.{◌≡◌, ℕ, refl, subst}
use Rattle.clif_check.specs.Faults.{IsAccepted}
use Rattle.settings.specs.Settings.{RunSettings, Settings, Check, Print, Inline, Run, Gen, Test}
use Rattle.clifinl.specs.declared.status.Status.{Status}
use Rattle.clifinl.specs.declared.status.Status.TheVariants.{Done, Refused, Usage, ReadFault, WriteFault, NoMemory, ChecksFailed}
use Rattle.clifinl.specs.declared.status.Refusal.TheVariants.{Text, TooLong, BadScript, NoEntry, BadArgs, BadDirective}
use Rattle.clifinl.specs.Asked.{IsRunOf, ReadsNothing}
use Rattle.clifinl.specs.RunCommand.{IsUnread}
use Rattle.clifinl.specs.Runs.{IsFirstFault, Outside, count_line}
use Rattle.clifinl.proofs.Runs.{out_of_memory}
use Rattle.clifinl.proofs.GenEnds as generating
use Rattle.clifinl.proofs.InlineEnds as inlining
use Rattle.clifinl.proofs.PrintEnds as printing
use Rattle.clifinl.proofs.RunEnds as function
use Rattle.clifinl.proofs.TestEnds as testing

pub no_memory : (s : Settings) (before after : Outside) → IsUnread before after → IsRunOf s before after NoMemory
no_memory Check before after unread = out_of_memory IsAccepted IsFirstFault count_line before after
no_memory Print before after unread = printing.out_of_memory before after
no_memory (Inline s) before after unread = inlining.out_of_memory s before after
no_memory (Run s) before after unread = function.out_of_memory s before after
no_memory (Gen s) before after unread = generating.out_of_memory s before after unread
no_memory Test before after unread = testing.out_of_memory before after

-- settings are carried out
not_usage : (s : Settings) (before after : Outside) → IsRunOf s before after Usage → ⊥
not_usage Check before after run = run.cause
not_usage Print before after run = run.run.cause
not_usage (Inline s) before after run = run.run.cause
not_usage (Run s) before after run = run.cause.1
not_usage (Gen s) before after run = run.cause
not_usage Test before after run = run.cause

pub never_usage : (s : Settings) (before after : Outside) (status : Status) → IsRunOf s before after status → status ≡ Usage → ⊥
never_usage s before after status run usage = not_usage s before after (subst (IsRunOf s before after) usage run)

-- ---- nothing read

-- `run` has read nothing where its script is refused
pub run_unread : {Q : Type 0} (s : RunSettings) (status : Status) → ReadsNothing (Run s) status → ((count : ℕ) → status ≡ Refused (BadScript count) → Q) → Q
run_unread s (Refused (BadScript count)) nothing unread = unread count refl
run_unread s (Refused (Text k place)) nothing unread = absurd nothing
run_unread s (Refused TooLong) nothing unread = absurd nothing
run_unread s (Refused NoEntry) nothing unread = absurd nothing
run_unread s (Refused BadArgs) nothing unread = absurd nothing
run_unread s (Refused (BadDirective line)) nothing unread = absurd nothing
run_unread s Done nothing unread = absurd nothing
run_unread s Usage nothing unread = absurd nothing
run_unread s ReadFault nothing unread = absurd nothing
run_unread s WriteFault nothing unread = absurd nothing
run_unread s NoMemory nothing unread = absurd nothing
run_unread s ChecksFailed nothing unread = absurd nothing
