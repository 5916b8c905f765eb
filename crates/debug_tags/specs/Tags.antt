-- What inlining does to debug tags. A tag is a number of the user's or names a stack slot of its function. Where the
-- function's slots are appended behind `by` slots of another function, each slot tag names its slot by the number that
-- the slot has there.
use Rattle.std.specs.Prelude.{ℕ, ◌+◌, ◌<◌, ◌^◌, ⊤, Bool, true, false}
use Rattle.debug_tags.specs.declared.tags.Tag.{Tag}
use Rattle.debug_tags.specs.declared.tags.Tag.TheVariants.{User, Slot}

abbrev pub is_slot : Tag → Bool
is_slot (User number) = false
is_slot (Slot number) = true

-- the tag where the slots begin at number `by`
abbrev pub moved : ℕ → Tag → Tag
moved by (User number) = User number
moved by (Slot number) = Slot (number + by)

-- the new number is one of the type's
abbrev pub CanMove : ℕ → Tag → Type 0
CanMove by (User number) = ⊤
CanMove by (Slot number) = number + by < 2 ^ 32
