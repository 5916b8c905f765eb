use Rattle.std.proofs.Common.{◌∙◌, ap, refl}
use Rattle.interp.proofs.Standing.{held_in, more_room}
use Rattle.interp.proofs.registers.Registers.make_room.Goals as goal

pub room-preserved : goal.room-preserved
room-preserved c = ap (λ xs. held_in xs c.room.self.wide) c.in_ok-push.ensures.items ∙ (more_room c.room.self.narrow.items _ c.room.self.wide refl ∙ c.room.invariant)
