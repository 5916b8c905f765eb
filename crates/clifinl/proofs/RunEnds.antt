-- How runs of `run` end.
use Rattle.std.proofs.Common.{◌≡◌, ℕ, zero, suc, ℤ, Bool, true, false, List, [], ◌∷◌, Option, Some, slice_get, refl, sym, ap, subst, ◌∙◌, inl, inr}
use Rattle.std.specs.Prelude.{◌⊎◌, if◌then◌else◌}
use Rattle.grammar.specs.Rules.{Rule, Tree}
use Rattle.clif_check.specs.Faults.{IsAccepted}
use Rattle.clif_check.proofs.Stages.{one_module}
use Rattle.ir_core.specs.declared.names.FuncName.{FuncName}
use Rattle.ir_core.specs.Lookup.{find_function, same_name}
use Rattle.ir_core.specs.Module.{Function, Module}
use Rattle.ir_core.proofs.Equal.{name_equal}
use Rattle.host_script.specs.declared.script.Script.{Script}
use Rattle.interp.specs.declared.outcome.Outcome.{Outcome}
use Rattle.interp.specs.Outcome.{outcome_of}
use Rattle.ir_text.specs.TextTree.{spelled}
use Rattle.interp_run.specs.declared.run.RunErr.TheVariants as err
use Rattle.program_run.specs.EntryName.{HasNoEntry, IsRefusalOfSpelled, spelling}
use Rattle.program_run.specs.RunText.{run_text}
use Rattle.script_text.specs.Grammar as grammar
use Rattle.script_text.specs.Scripts.{Reads, StopsIn}
use Rattle.script_text.specs.Values.{number_list_value}
use Rattle.script_text.proofs.Places.{none_where_read}
use Rattle.settings.specs.Settings.{RunSettings}
use Rattle.clifinl.specs.declared.status.Status.{Status}
use Rattle.clifinl.specs.declared.status.Status.TheVariants.{Done, Refused, Usage, ReadFault, WriteFault, NoMemory, ChecksFailed}
use Rattle.clifinl.specs.declared.status.Refusal.TheVariants.{Text, TooLong, BadScript, NoEntry, BadArgs, BadDirective}
use Rattle.clifinl.specs.RunCommand.{CanRun, EntryRunEnds, HasCause, HasEntry, HasOutcome, HasUnfitNumbers, IsEntryRefusal, IsFunctionRun, IsListRefusal, IsNoList, IsScriptRefusal, IsScriptText, IsUnread, ReadsScript}
use Rattle.clifinl.specs.Runs.{IsFirstFault, Outside, Stopped, Took, Wrote, count_line}
use Rattle.clifinl.proofs.Runs as runs

-- ---- readings

-- a text has one value
pub one_value : {A : Type 0} (r : Rule) (value : Tree r → A) (text : List ℕ) (x y : A) → Reads r value text x → Reads r value text y → x ≡ y
one_value r value text x y a b = a.2 ∙ ap value (sym (a.3 b.0 b.1)) ∙ sym b.2

-- numbers that are read are not refused as a list
pub no_list : (text : List ℕ) (spot : ℕ) → StopsIn grammar.number_list text spot → IsNoList text
no_list text spot stops = λ numbers reads. none_where_read grammar.number_list text spot reads.0 reads.1 stops

-- ---- entries

pub found_at : (m : Module) (n : FuncName) (f : Function) → find_function n m ≡ Some f → (i : ℕ) × (slice_get m i ≡ Some f) × (f.name ≡ n)
found_at [] n f e = absurd cc
found_at (g ∷ m) n f e = go (same_name g.name n) refl e (found_at m n f)
  where
    go : (c : Bool) → same_name g.name n ≡ c → (if c then Some g else find_function n m) ≡ Some f
        → (find_function n m ≡ Some f → (i : ℕ) × (slice_get m i ≡ Some f) × (f.name ≡ n)) → (i : ℕ) × (slice_get (g ∷ m) i ≡ Some f) × (f.name ≡ n)
    go true same is more = let it : g ≡ f = cc in (zero, ap (λ (h : Function). Some h) it, ap (λ (h : Function). h.name) (sym it) ∙ name_equal g.name n same)
    go false same is more = let found = more is in (suc found.0, found.1, found.2)

-- a module that has an entry has not none
pub entry_there : (m : Module) (text : List ℕ) → HasEntry m text → HasNoEntry m text → ⊥
entry_there m text entry none =
    let found = found_at m entry.0 entry.1.1.0 entry.1.1.1 in
    none found.0 entry.1.1.0 found.1 (ap spelling found.2 ∙ entry.1.0)

-- ---- of an accepted module

-- where the numbers are not read, the module's run is refused
pub list_refused : (s : RunSettings) (m : Module) → HasEntry m s.entry → (status : Status) → IsListRefusal s.args status → IsEntryRefusal s m status
list_refused s m entry (Refused BadArgs) why = (entry, inl why)
list_refused s m entry NoMemory why = tt
list_refused s m entry (Refused (Text k place)) why = absurd why
list_refused s m entry (Refused TooLong) why = absurd why
list_refused s m entry (Refused (BadScript count)) why = absurd why
list_refused s m entry (Refused NoEntry) why = absurd why
list_refused s m entry (Refused (BadDirective line)) why = absurd why
list_refused s m entry Done why = absurd why
list_refused s m entry Usage why = absurd why
list_refused s m entry ReadFault why = absurd why
list_refused s m entry WriteFault why = absurd why
list_refused s m entry ChecksFailed why = absurd why

-- a run whose text is written
pub entry_ends : (s : RunSettings) (script : Script) (m : Module) (outcome : Outcome) → HasOutcome s script m outcome
    → (before after : Option (List ℕ)) (faults now : ℕ) (status : Status) → Wrote (spelled (run_text (outcome_of outcome))) before after faults now status
    → EntryRunEnds s script m before after faults now status
entry_ends s script m outcome has before after faults now Done wrote = (spelled (run_text (outcome_of outcome)), (outcome, has, refl), wrote)
entry_ends s script m outcome has before after faults now WriteFault wrote =
    (spelled (run_text (outcome_of outcome)), (outcome, has, refl), wrote.0, wrote.1)
entry_ends s script m outcome has before after faults now NoMemory wrote = tt
entry_ends s script m outcome has before after faults now (Refused refusal) wrote = absurd wrote
entry_ends s script m outcome has before after faults now Usage wrote = absurd wrote
entry_ends s script m outcome has before after faults now ReadFault wrote = absurd wrote
entry_ends s script m outcome has before after faults now ChecksFailed wrote = absurd wrote

-- ---- a run for each end

module _ (s : RunSettings) (before after : Outside) where
  abbrev Ends : Status → Type 0
  Ends status = IsFunctionRun s before after status

  pub out_of_memory : Ends NoMemory
  out_of_memory = record { cause = tt; complete = λ bytes is short can none. inr refl }

  -- the script's text is refused
  pub script_refused : (status : Status) → IsScriptRefusal s.script status → IsUnread before after → Ends status
  script_refused (Refused (BadScript count)) why unread = record {
    cause = (why, unread);
    complete = λ bytes is short can none. absurd (none_where_read grammar.script s.script why.0 can.script.1.0 can.script.1.1 why.1);
  }
  script_refused NoMemory why unread = out_of_memory
  script_refused (Refused (Text k place)) why unread = absurd why
  script_refused (Refused TooLong) why unread = absurd why
  script_refused (Refused NoEntry) why unread = absurd why
  script_refused (Refused BadArgs) why unread = absurd why
  script_refused (Refused (BadDirective line)) why unread = absurd why
  script_refused Done why unread = absurd why
  script_refused Usage why unread = absurd why
  script_refused ReadFault why unread = absurd why
  script_refused WriteFault why unread = absurd why
  script_refused ChecksFailed why unread = absurd why

  -- a script that was read is not refused
  pub script_kept : (script : Script) (status : Status) → ReadsScript s.script script → Ends status → (count : ℕ) → status ≡ Refused (BadScript count) → ⊥
  script_kept script status reads run count is =
      let refused : Ends (Refused (BadScript count)) = subst Ends is run in
      none_where_read grammar.script s.script refused.cause.0.0 reads.0 reads.1 refused.cause.0.1

  -- no module was read
  stop_cause : IsScriptText s.script → (status : Status) → Stopped IsFirstFault before.left after.left before.read_faults after.read_faults status → HasCause s before after status
  stop_cause script (Refused (Text k place)) why = (script, why)
  stop_cause script (Refused TooLong) why = (script, why)
  stop_cause script ReadFault why = (script, why)
  stop_cause script NoMemory why = tt
  stop_cause script (Refused (BadScript count)) why = absurd why
  stop_cause script (Refused NoEntry) why = absurd why
  stop_cause script (Refused BadArgs) why = absurd why
  stop_cause script (Refused (BadDirective line)) why = absurd why
  stop_cause script Done why = absurd why
  stop_cause script Usage why = absurd why
  stop_cause script WriteFault why = absurd why
  stop_cause script ChecksFailed why = absurd why

  pub stopped : IsScriptText s.script → (status : Status) → Stopped IsFirstFault before.left after.left before.read_faults after.read_faults status → Ends status
  stopped script status why =
      let reading = runs.stopped IsAccepted IsFirstFault count_line before after runs.honest status why in
      record {
        cause = stop_cause script status why;
        complete = λ bytes is short can none. reading.complete bytes can.m is short can.accepted none;
      }

  -- a module was read
  module _ (script : Script) (m : Module) (reads : ReadsScript s.script script) (took : Took IsAccepted before.left after.left m) where
    same_module : (bytes : List ℕ) → before.left ≡ Some bytes → (can : CanRun s bytes) → can.m ≡ m
    same_module bytes is can =
        one_module bytes can.m m can.accepted (subst (λ (b : List ℕ). IsAccepted b m) (runs.told _ _ _ _ took.whole is) took.takes)

    fitting : (bytes : List ℕ) → before.left ≡ Some bytes → CanRun s bytes → IsNoList s.args ⊎ HasUnfitNumbers s m → ⊥
    fitting bytes is can (inl none) = none can.numbers can.reads
    fitting bytes is can (inr unfit) =
        let same : unfit.0 ≡ can.numbers = one_value grammar.number_list number_list_value s.args unfit.0 can.numbers unfit.1 can.reads in
        can.fit (subst (λ (n : Module). IsRefusalOfSpelled n s.entry can.numbers err.BadArgs) (sym (same_module bytes is can))
        (subst (λ (ns : List ℤ). IsRefusalOfSpelled m s.entry ns err.BadArgs) same unfit.2))

    pub ended : (status : Status) → EntryRunEnds s script m before.written after.written before.write_faults after.write_faults status → Ends status
    ended Done ends = record { cause = (script, m, reads, took, ends); complete = λ bytes is short can none. inl refl }
    ended WriteFault ends = record {
      cause = (script, m, reads, took, ends);
      complete = λ bytes is short can none. absurd (none.writes ends.3);
    }
    ended NoMemory ends = out_of_memory
    ended (Refused NoEntry) ends = record {
      cause = (script, m, reads, took, ends);
      complete = λ bytes is short can none.
          absurd (entry_there m s.entry (subst (λ (n : Module). HasEntry n s.entry) (same_module bytes is can) can.entry) ends);
    }
    ended (Refused BadArgs) ends = record {
      cause = (script, m, reads, took, ends);
      complete = λ bytes is short can none. absurd (fitting bytes is can ends.1);
    }
    ended (Refused (Text k place)) ends = absurd ends
    ended (Refused TooLong) ends = absurd ends
    ended (Refused (BadScript count)) ends = absurd ends
    ended (Refused (BadDirective line)) ends = absurd ends
    ended Usage ends = absurd ends
    ended ReadFault ends = absurd ends
    ended ChecksFailed ends = absurd ends
