use Rattle.std.proofs.Common.{◌≡◌, ◌+◌, ◌-◌, vec_len}
use Rattle.interp.specs.State.{env_of}
use Rattle.interp.proofs.registers.Registers.make_room.Given as goal

abbrev pub invariant-room : goal.invariant-room
invariant-room l = env_of l.self ≡ env_of l.fn.self

abbrev pub decreases-room : goal.decreases-room
decreases-room l = l.at + 1 - vec_len l.self.narrow
