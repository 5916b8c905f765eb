-- What a command reads, what it writes, and how its run ends.
use Rattle.std.specs.Prelude.{◌≡◌, ℕ, ◌+◌, ◌<◌, ◌≤◌, ◌⊎◌, ⊤, List, length, Option, Some, codes, decimal, ◌++◌}
use Rattle.std.specs.Io.KnownBytes.{Appends, Consumes, IsAtEnd}
use Rattle.clk_flow.specs.Faults.{Rose}
use Rattle.clk_flow.specs.Whole.{AppendsPrefix}
use Rattle.clif_lex.specs.declared.faults.Place.{Place}
use Rattle.clif_lex.specs.declared.faults.TextKind.{TextKind}
use Rattle.clif_lex.specs.Places.{line_at, column_at}
use Rattle.clif_check.specs.Faults.{FirstFault}
use Rattle.ir_core.specs.Module.{Module}
use Rattle.clifinl.specs.declared.status.Status.{Status}
use Rattle.clifinl.specs.declared.status.Status.TheVariants.{Done, Refused, ReadFault, WriteFault, NoMemory}
use Rattle.clifinl.specs.declared.status.Refusal.TheVariants.{Text, TooLong}

-- ---- reading

-- a text has at most so many bytes
abbrev pub most_bytes : ℕ
most_bytes = 67108864

-- these bytes were taken from the source, and they were all that it had
pub record ReadsWhole (before after : Option (List ℕ)) (bytes : List ℕ) : Type 0 where
  pub taken : Consumes before after bytes
  pub ended : IsAtEnd after
  pub short : length bytes ≤ most_bytes

-- the source gave more bytes than a text may have
abbrev pub GivesTooMany : Option (List ℕ) → Option (List ℕ) → Type 0
GivesTooMany before after = (bytes : List ℕ) × Consumes before after bytes × (length bytes ≡ most_bytes + 1)

-- ---- the texts that a command takes, and its refusals of the others

-- the place is that of the byte
pub record IsPlaceOf (text : List ℕ) (spot : ℕ) (place : Place) : Type 0 where
  pub line : place.line ≡ line_at text spot
  pub column : place.column ≡ column_at text spot

-- the text's first fault is of this kind, and its byte stands there
abbrev pub IsFirstFault : List ℕ → TextKind → Place → Type 0
IsFirstFault text k place = (spot : ℕ) × FirstFault text k spot × IsPlaceOf text spot place

-- ---- a run

-- what the source has left and what the sink holds, where they tell it, and their counts of faults
pub record Outside : Type 0 where
  pub left : Option (List ℕ)
  pub read_faults : ℕ
  pub written : Option (List ℕ)
  pub write_faults : ℕ

abbrev pub outside : Option (List ℕ) → ℕ → Option (List ℕ) → ℕ → Outside
outside left read_faults written write_faults =
    record { left = left; read_faults = read_faults; written = written; write_faults = write_faults }

-- neither the source nor the sink had a fault
pub record HasNoFault (before after : Outside) : Type 0 where
  pub reads : Rose before.read_faults after.read_faults → ⊥
  pub writes : Rose before.write_faults after.write_faults → ⊥

-- a run ended with the status because of the text
abbrev pub IsOfText : Status → Type 0
IsOfText (Refused (Text k place)) = ⊤
IsOfText status = ⊥

-- the source was read whole, and its text is one of those that are taken
pub record Took (Takes : List ℕ → Module → Type 0) (before after : Option (List ℕ)) (m : Module) : Type 0 where
  pub bytes : List ℕ
  pub whole : ReadsWhole before after bytes
  pub takes : Takes bytes m

-- why a run stopped before it wrote, where some texts are refused
abbrev pub Stopped : (List ℕ → TextKind → Place → Type 0) → (before after : Option (List ℕ)) → (faults now : ℕ) → Status
    → Type 0
Stopped Refuses before after faults now (Refused (Text k place)) =
    (bytes : List ℕ) × ReadsWhole before after bytes × Refuses bytes k place
Stopped Refuses before after faults now (Refused TooLong) = GivesTooMany before after
Stopped Refuses before after faults now ReadFault = Rose faults now
Stopped Refuses before after faults now NoMemory = ⊤
Stopped Refuses before after faults now status = ⊥

-- no text is refused
abbrev pub NoText : List ℕ → TextKind → Place → Type 0
NoText text k place = ⊥

-- how a run ends that has this to write
abbrev pub Wrote : List ℕ → (before after : Option (List ℕ)) → (faults now : ℕ) → Status → Type 0
Wrote output before after faults now Done = Appends before after output
Wrote output before after faults now WriteFault = AppendsPrefix before after output × Rose faults now
Wrote output before after faults now NoMemory = ⊤
Wrote output before after faults now status = ⊥

-- A run of a command that takes certain texts, each as a module, refuses the others, and writes an output of the
-- module.
module _ (Takes : List ℕ → Module → Type 0) (Refuses : List ℕ → TextKind → Place → Type 0)
    (output : Module → List ℕ) where
  -- each status has its cause; a part of the output is written where the sink failed, and nothing where the run stopped
  abbrev pub HasCause : Outside → Outside → Status → Type 0
  HasCause before after Done =
      (m : Module) × Took Takes before.left after.left m × Appends before.written after.written (output m)
  HasCause before after WriteFault =
      (m : Module) × Took Takes before.left after.left m × AppendsPrefix before.written after.written (output m)
      × Rose before.write_faults after.write_faults
  HasCause before after status = Stopped Refuses before.left after.left before.read_faults after.read_faults status

  pub record IsRun (before after : Outside) (status : Status) : Type 0 where
    pub cause : HasCause before after status
    -- where the source tells its bytes, they decide, unless the outside fails or memory runs out
    pub complete : (bytes : List ℕ) (m : Module) → before.left ≡ Some bytes → length bytes ≤ most_bytes → Takes bytes m
        → HasNoFault before after → (status ≡ Done) ⊎ (status ≡ NoMemory)
    pub refuses : (bytes : List ℕ) → before.left ≡ Some bytes → length bytes ≤ most_bytes
        → ((m : Module) → Takes bytes m → ⊥) → IsOfText status ⊎ ((status ≡ ReadFault) ⊎ (status ≡ NoMemory))
    pub too_long : (bytes : List ℕ) → before.left ≡ Some bytes → most_bytes < length bytes
        → (status ≡ Refused TooLong) ⊎ ((status ≡ ReadFault) ⊎ (status ≡ NoMemory))

-- ---- the commands

-- what `check` writes: how many functions there are
abbrev pub line_of_count : ℕ → List ℕ
line_of_count count = codes "ok " ++ decimal count ++ codes "\n"

abbrev pub count_line : Module → List ℕ
count_line m = line_of_count (length m)
