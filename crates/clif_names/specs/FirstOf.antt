-- The first fault from the least spots of each kind, the kinds in the order in which they are listed.
use Rattle.std.specs.Prelude.{ℕ, nat_lt, Option, None, Some, if◌then◌else◌}
use Rattle.clif_lex.specs.declared.faults.TextKind.{TextKind}
use Rattle.clif_lex.specs.declared.faults.TextKind.TheVariants.{Duplicate, Undefined, NumberRange, Untyped, TooLarge}
use Rattle.clif_read.specs.declared.raw.RawModule.{RawModule}
use Rattle.clif_names.specs.declared.first.NamesFault.{NamesFault}
use Rattle.clif_names.specs.declared.least.LeastSpots.{LeastSpots}
use Rattle.clif_names.specs.Faults.{NoFault, FirstFault}

-- the answer is the first fault, or there is none
abbrev pub IsFirstFault : RawModule → Option NamesFault → Type 0
IsFirstFault raw None = NoFault raw
IsFirstFault raw (Some fault) = FirstFault raw fault.kind fault.spot

abbrev pub or_earlier : Option NamesFault → TextKind → Option ℕ → Option NamesFault
or_earlier first kind None = first
or_earlier None kind (Some spot) = Some (record { kind = kind; spot = spot })
or_earlier (Some fault) kind (Some spot) =
    if nat_lt spot fault.spot then Some (record { kind = kind; spot = spot }) else Some fault

abbrev pub first_of : LeastSpots → Option NamesFault
first_of least =
    or_earlier
    (or_earlier
    (or_earlier (or_earlier (or_earlier None Duplicate least.duplicate) Undefined least.undefined)
    NumberRange least.number_range)
    Untyped least.untyped)
    TooLarge least.too_large
