use Rattle.std.proofs.Common.{◌≡◌, ◌+◌, ◌-◌, ◌*◌, ◌^◌, ◌<◌, Some}
use Rattle.ir_semantics.specs.Values.{bytes_from}
use Rattle.byte_store.specs.Cells.{bytes_at}
use Rattle.byte_store.specs.Bytes.{number_at}
use Rattle.byte_store.proofs.slots.Slots.read.Given as goal

abbrev pub invariant-bytes : goal.invariant-bytes
invariant-bytes l = record { below : l.number < 2 ^ (8 * l.i); is : Some l.number ≡ number_at (bytes_from (bytes_at l.self l.slot) (l.offset + (l.bytes - l.i)) l.i) }
