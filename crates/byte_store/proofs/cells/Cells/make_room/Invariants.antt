use Rattle.std.proofs.Common.{◌≡◌, ◌-◌, vec_len}
use Rattle.byte_store.specs.Cells.{cell_of}
use Rattle.byte_store.proofs.cells.Cells.make_room.Given as goal

abbrev pub invariant-room : goal.invariant-room
invariant-room g l = cell_of l.self-inside.cells.items ≡ cell_of l.fn.self

abbrev pub decreases-room : goal.decreases-room
decreases-room g l = l.len - vec_len l.self-inside.cells
