use Rattle.std.proofs.Common.{◌≡◌, ◌+◌, ◌-◌, vec_len}
use Rattle.byte_store.specs.Cells.{bytes_at}
use Rattle.byte_store.proofs.slots.Slots.make_room.Given as goal

abbrev pub invariant-slots : goal.invariant-slots
invariant-slots l = bytes_at l.self-inside.slots.items ≡ bytes_at l.fn.self

abbrev pub decreases-slots : goal.decreases-slots
decreases-slots l = l.slot + 1 - vec_len l.self-inside.slots
