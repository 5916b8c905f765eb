use Rattle.std.proofs.Common.{◌≡◌, ◌-◌, ◌++◌, take, length}
use Rattle.ir_semantics.specs.Values.{bytes_of}
use Rattle.byte_store.proofs.memory.put_number.Given as goal

abbrev pub invariant-bytes : goal.invariant-bytes
invariant-bytes l = take l.byte-index l.range ++ bytes_of (length l.range - l.byte-index) l.rest ≡ bytes_of (length l.range) l.fn.number
