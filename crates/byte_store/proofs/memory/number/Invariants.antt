use Rattle.std.proofs.Common.{◌≡◌, ◌-◌, drop, length}
use Rattle.ir_semantics.specs.Values.{number_of, by_endian}
use Rattle.byte_store.proofs.memory.number.Given as goal

abbrev pub invariant-bytes : goal.invariant-bytes
invariant-bytes l = l.number ≡ number_of (drop (length l.bytes - l.i) (by_endian l.big l.bytes))
