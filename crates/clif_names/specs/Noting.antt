-- The first number that does not keep its limit, as the numbers of a text are seen in order.
use Rattle.std.specs.Prelude.{ℕ, Option, None, Some, if◌then◌else◌}
use Rattle.token_reader.specs.declared.raw.RawNumber.{RawNumber}
use Rattle.clif_names.specs.declared.limits.Limit.{Limit}
use Rattle.clif_names.specs.declared.limits.Limited.{Limited}
use Rattle.name_tables.specs.Least.{earlier_spot}
use Rattle.clif_names.specs.Limits.{keeps, of_number}

unfoldable pub note : Option ℕ → Limited → Option ℕ
note outside n = if keeps n.limit n.value then outside else earlier_spot outside n.spot

abbrev pub note_maybe : Option ℕ → Limit → Option RawNumber → Option ℕ
note_maybe outside limit None = outside
note_maybe outside limit (Some n) = note outside (of_number limit n)
