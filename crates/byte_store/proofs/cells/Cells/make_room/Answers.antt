use Rattle.std.proofs.Common.{◌∙◌, ap}
use Rattle.byte_store.specs.Cells.{cell_of}
use Rattle.byte_store.proofs.Room.{more_room}
use Rattle.byte_store.proofs.cells.Cells.make_room.Goals as goal

pub room-preserved : goal.room-preserved
room-preserved g c = ap cell_of c.in_ok-push.ensures.items ∙ (more_room c.room.self-inside.cells.items ∙ c.room.invariant)

pub returns-in_err-push-clause-same : goal.returns-in_err-push-clause-same
returns-in_err-push-clause-same g c = ap cell_of c.in_err-push.ensures.items ∙ c.room.invariant
