-- The faults of names and numbers of a raw module, each as a relation of its kind and its spot, and the first of them:
-- the one with the smallest spot, and at one spot the one whose kind is listed first.
use Rattle.std.specs.Prelude.{◌≡◌, ℕ, ◌<◌, ◌≤◌, ◌⊎◌, ⊤, List, [], slice_get, Some}
use Rattle.clif_lex.specs.declared.faults.TextKind.{TextKind}
use Rattle.clif_lex.specs.declared.faults.TextKind.TheVariants.{BadChar, BadNumber, Syntax, UnknownOpcode, Unsupported}
use Rattle.clif_lex.specs.declared.faults.TextKind.TheVariants.{Duplicate, Undefined, NumberRange, Untyped, TooLarge}
use Rattle.clif_lex.specs.declared.faults.TextKind.TheVariants.{NoTerminator, EntryTarget, CountMismatch, TypeMismatch}
use Rattle.clif_lex.specs.declared.faults.TextKind.TheVariants.{Convention, SignatureMismatch, SlotRange, TagPlace}
use Rattle.clif_lex.specs.declared.faults.TextKind.TheVariants.{NotAvailable}
use Rattle.clif_lex.specs.declared.faults.TextErr.{TextErr}
use Rattle.clif_lex.specs.declared.faults.TextErr.TheVariants as errors
use Rattle.clif_read.specs.declared.raw.RawFuncName.{RawFuncName}
use Rattle.clif_read.specs.declared.raw.RawFuncName.TheVariants as func_name
use Rattle.clif_read.specs.declared.raw.RawFunction.{RawFunction}
use Rattle.clif_read.specs.declared.raw.RawModule.{RawModule}
use Rattle.clif_read.specs.Marks.{name_spot}
use Rattle.name_tables.specs.Definitions.{Kind, definitions, value_defs}
use Rattle.name_tables.specs.Uses.{uses}
use Rattle.name_tables.specs.Words.{Repeats, IsMissing}
use Rattle.name_tables.specs.Chains.{IsEndless}
use Rattle.clif_names.specs.Limits.{limits, IsOutside}
use Rattle.clif_names.specs.Sizes.{raw_size, greatest_size, most_functions}
use Rattle.clif_names.specs.Typing.{IsUntyped}

-- two names are one; how their numbers are written does not count
abbrev pub SameName : RawFuncName → RawFuncName → Type 0
SameName (func_name.Text a s) (func_name.Text b t) = a ≡ b
SameName (func_name.User a i) (func_name.User b j) = (a.number ≡ b.number) × (i.value ≡ j.value)
SameName (func_name.Text a s) (func_name.User b j) = ⊥
SameName (func_name.User a i) (func_name.Text b t) = ⊥

-- ---- in one function

abbrev pub FunctionFault : RawFunction → TextKind → ℕ → Type 0
FunctionFault f Duplicate spot = (k : Kind) × Repeats (definitions f k) spot
FunctionFault f Undefined spot =
    ((k : Kind) × IsMissing (definitions f k) (uses f k) spot) ⊎ IsEndless (value_defs f) spot
FunctionFault f NumberRange spot = IsOutside (limits f) spot
FunctionFault f Untyped spot = IsUntyped f spot
FunctionFault f TooLarge spot = (name_spot f.name ≡ spot) × (greatest_size < raw_size f)
FunctionFault f _ spot = ⊥

-- ---- among functions

-- a function's name at this spot, which an earlier function has
abbrev pub RepeatsName : List RawFunction → ℕ → Type 0
RepeatsName fs spot =
    (i j : ℕ) × (f g : RawFunction)
    × (slice_get fs i ≡ Some f) × (name_spot f.name ≡ spot) × (j < i)
    × (slice_get fs j ≡ Some g) × SameName g.name f.name

-- a function's name at this spot, and too many functions before it
abbrev pub IsOneTooMany : List RawFunction → ℕ → Type 0
IsOneTooMany fs spot =
    (i : ℕ) × (f : RawFunction) × (slice_get fs i ≡ Some f) × (name_spot f.name ≡ spot) × (most_functions ≤ i)

abbrev pub ListFault : List RawFunction → TextKind → ℕ → Type 0
ListFault fs Duplicate spot = RepeatsName fs spot
ListFault fs TooLarge spot = IsOneTooMany fs spot
ListFault fs _ spot = ⊥

-- ---- in a module

-- the raw module that has these functions and no header lines
abbrev pub of_functions : List RawFunction → RawModule
of_functions fs = record { headers = []; functions = fs }

abbrev pub InSomeFunction : List RawFunction → TextKind → ℕ → Type 0
InSomeFunction fs kind spot = (i : ℕ) × (f : RawFunction) × (slice_get fs i ≡ Some f) × FunctionFault f kind spot

abbrev pub IsFault : RawModule → TextKind → ℕ → Type 0
IsFault raw kind spot = ListFault raw.functions kind spot ⊎ InSomeFunction raw.functions kind spot

abbrev pub NoFault : RawModule → Type 0
NoFault raw = (kind : TextKind) (spot : ℕ) → IsFault raw kind spot → ⊥

-- ---- the first

-- the place of a kind in their list
abbrev pub rank : TextKind → ℕ
rank BadChar = 0
rank BadNumber = 1
rank Syntax = 2
rank UnknownOpcode = 3
rank Unsupported = 4
rank Duplicate = 5
rank Undefined = 6
rank NumberRange = 7
rank Untyped = 8
rank TooLarge = 9
rank NoTerminator = 10
rank EntryTarget = 11
rank CountMismatch = 12
rank TypeMismatch = 13
rank Convention = 14
rank SignatureMismatch = 15
rank SlotRange = 16
rank TagPlace = 17
rank NotAvailable = 18

abbrev pub Before : TextKind → ℕ → TextKind → ℕ → Type 0
Before kind spot other at = (spot < at) ⊎ ((spot ≡ at) × (rank kind ≤ rank other))

abbrev pub FirstFault : RawModule → TextKind → ℕ → Type 0
FirstFault raw kind spot =
    IsFault raw kind spot × ((other : TextKind) (at : ℕ) → IsFault raw other at → Before kind spot other at)

-- why a raw module is refused; memory may run out at any time
abbrev pub IsNamesFault : RawModule → TextErr → Type 0
IsNamesFault raw (errors.Fault kind spot) = FirstFault raw kind spot
IsNamesFault raw errors.NoMemory = ⊤

-- ---- laws

abbrev pub OneFirstFault : Type 0
OneFirstFault =
    (raw : RawModule) (k l : TextKind) (s t : ℕ) → FirstFault raw k s → FirstFault raw l t → (k ≡ l) × (s ≡ t)

-- no fault is the first exactly where there is none
abbrev pub FirstWhereAny : Type 0
FirstWhereAny = (raw : RawModule) →
    (((k : TextKind) (s : ℕ) → FirstFault raw k s → ⊥) → NoFault raw)
    × (NoFault raw → (k : TextKind) (s : ℕ) → FirstFault raw k s → ⊥)
