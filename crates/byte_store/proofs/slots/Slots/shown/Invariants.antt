use Rattle.std.proofs.Common.{◌≡◌, ◌-◌, Some}
use Rattle.ir_semantics.specs.Values.{bytes_from, join}
use Rattle.byte_store.specs.Cells.{bytes_at}
use Rattle.byte_store.proofs.slots.Slots.shown.Given as goal

abbrev pub invariant-bytes : goal.invariant-bytes
invariant-bytes l = join (Some l.shown.items) (bytes_from (bytes_at l.self l.slot) l.i (l.size - l.i)) ≡ bytes_from (bytes_at l.self l.slot) 0 l.size
