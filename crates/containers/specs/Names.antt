-- The bytes of a name, wherever it keeps them.
use Rattle.std.specs.Prelude.{ℕ, ◌≤◌, ⊤, List, take}
use Rattle.containers.specs.declared.name_bytes.ShortOrLong.{ShortOrLong}
use Rattle.containers.specs.declared.name_bytes.ShortOrLong.TheVariants as form

abbrev pub bytes_of : ShortOrLong → List ℕ
bytes_of (form.Short length bytes) = take length bytes
bytes_of (form.Long bytes) = bytes.items

-- a short name has so many bytes in its room
abbrev pub IsWithin : ShortOrLong → Type 0
IsWithin (form.Short length bytes) = length ≤ 30
IsWithin (form.Long bytes) = ⊤
