-- What `run` reads and writes, and how it ends: it runs a function of an accepted module and writes the text of its
-- run.
use Rattle.std.specs.Prelude.{◌≡◌, ℕ, ℤ, ◌+◌, ◌≤◌, ◌⊎◌, ⊤, List, length, replicate, Option, Some}
use Rattle.std.specs.Io.KnownBytes.{Appends}
use Rattle.clk_flow.specs.Faults.{Rose}
use Rattle.clk_flow.specs.Whole.{AppendsPrefix}
use Rattle.clif_check.specs.Faults.{IsAccepted}
use Rattle.ir_core.specs.declared.names.FuncName.{FuncName}
use Rattle.ir_core.specs.Module.{Module}
use Rattle.ir_text.specs.TextTree.{spelled}
use Rattle.host_script.specs.declared.script.Script.{Script}
use Rattle.host_script.specs.Script.{replies_of}
use Rattle.script_text.specs.Grammar as grammar
use Rattle.script_text.specs.Scripts.{Reads, StopsIn}
use Rattle.script_text.specs.Values.{number_list_value, script_value}
use Rattle.interp.specs.declared.outcome.Outcome.{Outcome}
use Rattle.interp.specs.Outcome.{outcome_of}
use Rattle.interp_run.specs.declared.run.RunErr.TheVariants as err
use Rattle.program_run.specs.EntryName.{HasNoEntry, IsRefusalOfSpelled, IsRunOfSpelled, IsSpelledEntry}
use Rattle.program_run.specs.RunText.{run_text}
use Rattle.settings.specs.Settings.{RunSettings}
use Rattle.clifinl.specs.declared.status.Status.{Status}
use Rattle.clifinl.specs.declared.status.Status.TheVariants.{Done, Refused, WriteFault, NoMemory}
use Rattle.clifinl.specs.declared.status.Refusal.TheVariants.{BadScript, NoEntry, BadArgs}
use Rattle.clifinl.specs.Runs.{HasNoFault, IsFirstFault, Outside, Stopped, Took, most_bytes}

-- ---- the texts of the options

-- the text is this script
abbrev pub ReadsScript : List ℕ → Script → Type 0
ReadsScript text script = Reads grammar.script script_value text (replies_of script)

abbrev pub IsScriptText : List ℕ → Type 0
IsScriptText text = (script : Script) × ReadsScript text script

-- the text is these numbers
abbrev pub ReadsNumbers : List ℕ → List ℤ → Type 0
ReadsNumbers text numbers = Reads grammar.number_list number_list_value text numbers

-- The script goes no further at this byte of its text, counted from 1.
abbrev pub IsScriptFault : List ℕ → ℕ → Type 0
IsScriptFault text count = (spot : ℕ) × StopsIn grammar.script text spot × (count ≡ spot + 1)

-- why a script's text gives no script
abbrev pub IsScriptRefusal : List ℕ → Status → Type 0
IsScriptRefusal text (Refused (BadScript count)) = IsScriptFault text count
IsScriptRefusal text NoMemory = ⊤
IsScriptRefusal text status = ⊥

-- the text is no list of numbers
abbrev pub IsNoList : List ℕ → Type 0
IsNoList text = (numbers : List ℤ) → ReadsNumbers text numbers → ⊥

-- why a text gives no numbers
abbrev pub IsListRefusal : List ℕ → Status → Type 0
IsListRefusal text (Refused BadArgs) = IsNoList text
IsListRefusal text NoMemory = ⊤
IsListRefusal text status = ⊥

-- ---- the run of the function

-- the run of the entry with the numbers that `--args` has, a memory of zeros and at most so many steps
abbrev pub HasOutcome : RunSettings → Script → Module → Outcome → Type 0
HasOutcome s script m outcome =
    (numbers : List ℤ) × ReadsNumbers s.args numbers
    × IsRunOfSpelled m s.entry numbers script (replicate s.memory 0) s.steps outcome

-- this is the text of the run
abbrev pub HasRunText : RunSettings → Script → Module → List ℕ → Type 0
HasRunText s script m text =
    (outcome : Outcome) × HasOutcome s script m outcome × (text ≡ spelled (run_text (outcome_of outcome)))

-- the numbers of `--args` are not as many as the parameters of the entry, or one is no value of its parameter's type
abbrev pub HasUnfitNumbers : RunSettings → Module → Type 0
HasUnfitNumbers s m =
    (numbers : List ℤ) × ReadsNumbers s.args numbers × IsRefusalOfSpelled m s.entry numbers err.BadArgs

-- a function has the name that is spelled so
abbrev pub HasEntry : Module → List ℕ → Type 0
HasEntry m text = (name : FuncName) × IsSpelledEntry m text name

-- why an accepted module has no such run
abbrev pub IsEntryRefusal : RunSettings → Module → Status → Type 0
IsEntryRefusal s m (Refused NoEntry) = HasNoEntry m s.entry
IsEntryRefusal s m (Refused BadArgs) = HasEntry m s.entry × (IsNoList s.args ⊎ HasUnfitNumbers s m)
IsEntryRefusal s m NoMemory = ⊤
IsEntryRefusal s m status = ⊥

-- how a run ends that has a module and a script
abbrev pub EntryRunEnds : RunSettings → Script → Module → (before after : Option (List ℕ)) → (faults now : ℕ) → Status
    → Type 0
EntryRunEnds s script m before after faults now Done =
    (text : List ℕ) × HasRunText s script m text × Appends before after text
EntryRunEnds s script m before after faults now WriteFault =
    (text : List ℕ) × HasRunText s script m text × AppendsPrefix before after text × Rose faults now
EntryRunEnds s script m before after faults now status = IsEntryRefusal s m status

-- ---- the command

-- the source is as it was
pub record IsUnread (before after : Outside) : Type 0 where
  pub left : after.left ≡ before.left
  pub faults : after.read_faults ≡ before.read_faults

-- The script was read, then an accepted module, and this is how its run ends.
abbrev pub EndsAfterBoth : RunSettings → Outside → Outside → Status → Type 0
EndsAfterBoth s before after status =
    (script : Script) × (m : Module) × ReadsScript s.script script × Took IsAccepted before.left after.left m
    × EntryRunEnds s script m before.written after.written before.write_faults after.write_faults status

-- each status has its cause; a part of the text is written where the sink failed, and nothing where the run stopped
abbrev pub HasCause : RunSettings → Outside → Outside → Status → Type 0
HasCause s before after Done = EndsAfterBoth s before after Done
HasCause s before after WriteFault = EndsAfterBoth s before after WriteFault
HasCause s before after (Refused NoEntry) = EndsAfterBoth s before after (Refused NoEntry)
HasCause s before after (Refused BadArgs) = EndsAfterBoth s before after (Refused BadArgs)
HasCause s before after (Refused (BadScript count)) = IsScriptFault s.script count × IsUnread before after
HasCause s before after NoMemory = ⊤
HasCause s before after status =
    IsScriptText s.script × Stopped IsFirstFault before.left after.left before.read_faults after.read_faults status

-- the text is accepted, an entry is spelled so, and its parameters take the numbers
pub record CanRun (s : RunSettings) (bytes : List ℕ) : Type 0 where
  pub m : Module
  pub accepted : IsAccepted bytes m
  pub script : IsScriptText s.script
  pub entry : HasEntry m s.entry
  pub numbers : List ℤ
  pub reads : ReadsNumbers s.args numbers
  pub fit : IsRefusalOfSpelled m s.entry numbers err.BadArgs → ⊥

pub record IsFunctionRun (s : RunSettings) (before after : Outside) (status : Status) : Type 0 where
  pub cause : HasCause s before after status
  -- where the source tells its bytes, they decide, unless the outside fails or memory runs out
  pub complete : (bytes : List ℕ) → before.left ≡ Some bytes → length bytes ≤ most_bytes → CanRun s bytes
      → HasNoFault before after → (status ≡ Done) ⊎ (status ≡ NoMemory)
