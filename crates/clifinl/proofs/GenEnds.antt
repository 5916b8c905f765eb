-- How the runs of `gen` end.
use Rattle.std.proofs.Common.{◌≡◌, ℕ, List, Option, refl, inl, inr}
use Rattle.std.specs.Prelude.{◌⊎◌}
use Rattle.clk_flow.specs.Faults.{Rose}
use Rattle.gen_mod.specs.Generated.{generated}
use Rattle.settings.specs.Settings.{GenSettings}
use Rattle.clifinl.specs.declared.status.Status.{Status}
use Rattle.clifinl.specs.declared.status.Status.TheVariants.{Done, Refused, Usage, ReadFault, WriteFault, NoMemory, ChecksFailed}
use Rattle.clifinl.specs.GenCommand.{IsGenRun, gen_text}
use Rattle.clifinl.specs.PrintCommand.{ReadsBack}
use Rattle.clifinl.specs.RunCommand.{IsUnread}
use Rattle.clifinl.specs.Runs.{Outside, Wrote}

-- where the sink has no fault, all is written or memory ran out
ends : (output : List ℕ) (before after : Option (List ℕ)) (faults now : ℕ) (status : Status) → Wrote output before after faults now status → (Rose faults now → ⊥)
    → (status ≡ Done) ⊎ (status ≡ NoMemory)
ends output before after faults now Done wrote none = inl refl
ends output before after faults now NoMemory wrote none = inr refl
ends output before after faults now WriteFault wrote none = absurd (none wrote.1)
ends output before after faults now (Refused refusal) wrote none = absurd wrote
ends output before after faults now Usage wrote none = absurd wrote
ends output before after faults now ReadFault wrote none = absurd wrote
ends output before after faults now ChecksFailed wrote none = absurd wrote

pub gen_run : (s : GenSettings) (before after : Outside) (status : Status) → IsUnread before after
    → Wrote (gen_text s) before.written after.written before.write_faults after.write_faults status
    → (status ≡ Done → ReadsBack (generated s.number s.functions)) → IsGenRun s before after status
gen_run s before after status unread wrote back = record {
  unread = unread;
  cause = wrote;
  complete = ends (gen_text s) before.written after.written before.write_faults after.write_faults status wrote;
  headline = λ done text. back done;
}

pub out_of_memory : (s : GenSettings) (before after : Outside) → IsUnread before after → IsGenRun s before after NoMemory
out_of_memory s before after unread = gen_run s before after NoMemory unread tt (λ done. absurd cc)
