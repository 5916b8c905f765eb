-- Which texts are accepted, and the first fault of each other: of its tokens or its syntax, then of its names and
-- numbers, then the first rule that it does not keep. An earlier stage over the whole text comes before a later one.
use Rattle.std.specs.Prelude.{◌≡◌, ℕ, ◌⊎◌, ⊤, List, Some, IsSome}
use Rattle.clif_lex.specs.declared.faults.TextErr.{TextErr}
use Rattle.clif_lex.specs.declared.faults.TextErr.TheVariants as errors
use Rattle.clif_lex.specs.declared.faults.TextKind.{TextKind}
use Rattle.clif_lex.specs.declared.faults.TextKind.TheVariants as kind
use Rattle.clif_lex.specs.Lexing.{tokens_of}
use Rattle.clif_read.specs.declared.raw.RawModule.{RawModule}
use Rattle.clif_read.specs.Texts.{IsModuleText, IsFirstFault}
use Rattle.clif_names.specs.Faults as names
use Rattle.clif_names.specs.Faults.{NoFault}
use Rattle.clif_meaning.specs.Meaning.{Means}
use Rattle.clif_meaning.specs.Reads.{Reads}
use Rattle.clif_meaning.specs.Spots.{Spots, spots, spot_of}
use Rattle.ir_core.specs.declared.places.Item.{Item}
use Rattle.ir_core.specs.Module.{Module}
use Rattle.ir_semantics.specs.Accepted.{Rule, no_terminator, entry_target, count_mismatch, type_mismatch, convention}
use Rattle.ir_semantics.specs.Accepted.{signature_mismatch, slot_range, tag_place, not_available, Accepted}
use Rattle.ir_check.specs.declared.checking.CheckErr.{CheckErr}
use Rattle.ir_check.specs.declared.checking.CheckErr.TheVariants as checked
use Rattle.ir_check.specs.Faults as rules
use Rattle.ir_check.specs.Kinds.{rule_of}

-- ---- accepted texts

-- the raw module has no fault, and what it means keeps every rule
pub record IsAcceptedRaw (raw : RawModule) (m : Module) : Type 0 where
  pub free : NoFault raw
  pub means : Means raw m
  pub accepted : Accepted m

-- the text reads as this module, which keeps every rule
pub record IsAccepted (text : List ℕ) (m : Module) : Type 0 where
  pub reads : Reads text m
  pub accepted : Accepted m

-- ---- the first fault of the others

-- a rule that is not kept is a kind of fault
abbrev pub kind_of : Rule → TextKind
kind_of no_terminator = kind.NoTerminator
kind_of entry_target = kind.EntryTarget
kind_of count_mismatch = kind.CountMismatch
kind_of type_mismatch = kind.TypeMismatch
kind_of convention = kind.Convention
kind_of signature_mismatch = kind.SignatureMismatch
kind_of slot_range = kind.SlotRange
kind_of tag_place = kind.TagPlace
kind_of not_available = kind.NotAvailable

-- the item that the fault of a module names stands in the text
abbrev pub HasSpot : List Spots → CheckErr → Type 0
HasSpot places (checked.Fault kind func item) = IsSome (spot_of places func item)
HasSpot places checked.NoMemory = ⊤

-- the fault of a text by that of its module: at the spot of the item
abbrev pub IsErrOf : List Spots → CheckErr → TextErr → Type 0
IsErrOf places (checked.Fault kind func item) (errors.Fault k spot) =
    (k ≡ kind_of (rule_of kind)) × (spot_of places func item ≡ Some spot)
IsErrOf places checked.NoMemory errors.NoMemory = ⊤
IsErrOf places err e = ⊥

-- the names have no fault, and of what is meant, the part that stands at this spot is the first that breaks a rule
pub record BreaksRule (raw : RawModule) (k : TextKind) (spot : ℕ) : Type 0 where
  pub free : NoFault raw
  pub meant : Module
  pub means : Means raw meant
  pub func : ℕ
  pub item : Item
  pub rule : Rule
  pub first : rules.FirstFault meant func item rule
  pub kind_is : k ≡ kind_of rule
  pub spot_is : spot_of (spots raw) func item ≡ Some spot

abbrev pub FirstOfRaw : RawModule → TextKind → ℕ → Type 0
FirstOfRaw raw k spot = names.FirstFault raw k spot ⊎ BreaksRule raw k spot

-- The first fault of a text: it has no tokens or is no module, or it is a raw module that has this fault.
abbrev pub FirstFault : List ℕ → TextKind → ℕ → Type 0
FirstFault text k spot =
    IsFirstFault text (tokens_of text) (errors.Fault k spot)
    ⊎ ((raw : RawModule) × IsModuleText text raw × FirstOfRaw raw k spot)

-- why a text is refused; memory may run out at any time
abbrev pub IsRawFault : RawModule → TextErr → Type 0
IsRawFault raw (errors.Fault k spot) = FirstOfRaw raw k spot
IsRawFault raw errors.NoMemory = ⊤

abbrev pub IsFault : List ℕ → TextErr → Type 0
IsFault text (errors.Fault k spot) = FirstFault text k spot
IsFault text errors.NoMemory = ⊤
