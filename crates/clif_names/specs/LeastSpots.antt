-- The least spots of faults by kind: what they are, and what the code makes of the words of a function.
use Rattle.std.specs.Prelude.{ℕ, Bool, ◌&&◌, nat_lt, Option, None, Some, is_none, if◌then◌else◌}
use Rattle.ir_core.specs.Size.{capped}
use Rattle.clif_lex.specs.declared.faults.TextKind.{TextKind}
use Rattle.clif_lex.specs.declared.faults.TextKind.TheVariants.{Duplicate, Undefined, NumberRange, Untyped, TooLarge}
use Rattle.clif_read.specs.declared.raw.RawFunction.{RawFunction}
use Rattle.clif_names.specs.declared.least.LeastSpots.{LeastSpots}
use Rattle.clif_names.specs.declared.uses.Uses.{Uses}
use Rattle.clif_read.specs.Marks.{name_spot}
use Rattle.name_tables.specs.Least.{IsLeast, earlier_of}
use Rattle.clif_names.specs.Sizes.{raw_size, greatest_size}

-- of each kind of fault the least spot, or there is no fault of the kind
pub record AreLeast (Stands : TextKind → ℕ → Type 0) (least : LeastSpots) : Type 0 where
  pub duplicate : IsLeast (Stands Duplicate) least.duplicate
  pub undefined : IsLeast (Stands Undefined) least.undefined
  pub number_range : IsLeast (Stands NumberRange) least.number_range
  pub untyped : IsLeast (Stands Untyped) least.untyped
  pub too_large : IsLeast (Stands TooLarge) least.too_large

abbrev pub no_spots : LeastSpots
no_spots = record { duplicate = None; undefined = None; number_range = None; untyped = None; too_large = None }

abbrev pub has_none : LeastSpots → Bool
has_none l =
    is_none l.duplicate && is_none l.undefined && is_none l.number_range && is_none l.untyped && is_none l.too_large

abbrev pub joined : LeastSpots → LeastSpots → LeastSpots
joined a b = record {
  duplicate = earlier_of a.duplicate b.duplicate;
  undefined = earlier_of a.undefined b.undefined;
  number_range = earlier_of a.number_range b.number_range;
  untyped = earlier_of a.untyped b.untyped;
  too_large = earlier_of a.too_large b.too_large;
}

-- ---- a function

unfoldable pub earliest : Option ℕ → Option ℕ → Option ℕ → Option ℕ → Option ℕ → Option ℕ
earliest a b c d e = earlier_of (earlier_of (earlier_of (earlier_of a b) c) d) e

abbrev pub repeated_of : Uses → Option ℕ
repeated_of u = earliest u.slots.repeated u.sigs.repeated u.callees.repeated u.blocks.repeated u.values.repeated

abbrev pub missing_of : Uses → Option ℕ
missing_of u = earliest u.slots.missing u.sigs.missing u.callees.missing u.blocks.missing u.values.missing

abbrev pub outside_of : Uses → Option ℕ
outside_of u = earliest u.slots.outside u.sigs.outside u.callees.outside u.blocks.outside u.values.outside

abbrev pub too_large_of : RawFunction → Option ℕ
too_large_of f = if nat_lt greatest_size (capped (raw_size f)) then Some (name_spot f.name) else None

abbrev pub least_of : Uses → Option ℕ → RawFunction → LeastSpots
least_of u endless f = record {
  duplicate = repeated_of u;
  undefined = earlier_of (missing_of u) endless;
  number_range = earlier_of (outside_of u) u.outside;
  untyped = u.untyped;
  too_large = too_large_of f;
}
