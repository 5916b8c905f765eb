use Rattle.std.proofs.Common.{◌≡◌, ◌+◌, ◌-◌, ◌<◌, ◌≤◌, [], length, get_or}
use Rattle.ir_semantics.specs.Values.{put_bytes, bytes_of}
use Rattle.byte_store.specs.Cells.{bytes_at}
use Rattle.byte_store.proofs.slots.Slots.write.Given as goal

abbrev pub invariant-bytes : goal.invariant-bytes
invariant-bytes l = record { slot : l.slot < length l.self; room : l.offset + l.bytes ≤ length (get_or l.self l.slot []); is : put_bytes (bytes_at l.self) l.slot (l.offset + l.i) (bytes_of (l.bytes - l.i) l.rest) ≡ put_bytes (bytes_at l.fn.self) l.slot l.offset (bytes_of l.bytes l.fn.value) }
