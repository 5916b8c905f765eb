use Rattle.std.proofs.Common.{◌≡◌, ◌∙◌, ap, rules}
use Rattle.byte_store.specs.Cells.{cell_of, put_cell}
use Rattle.byte_store.proofs.Room.{more_room, set_is_put, on_err}
use Rattle.byte_store.proofs.cells.Cells.put.Goals as goal

pub room-preserved : goal.room-preserved
room-preserved g c = ap cell_of c.in_ok-push.ensures.items ∙ (more_room c.room.self-inside.cells.items ∙ c.room.invariant)

pub returns-in_err-push-clause-err : goal.returns-in_err-push-clause-err
returns-in_err-push-clause-err g c = on_err c.from_residual.result (cell_of c.push.new.self.items ≡ cell_of c.args.self.now) (ap cell_of c.in_err-push.ensures.items ∙ c.room.invariant)

pub returns-clause-ok : goal.returns-clause-ok
returns-clause-ok g c = set_is_put c.room.self-inside.cells.items c.args.at c.args.value (search rules) ∙ ap (λ e. put_cell e c.args.at c.args.value) c.room.invariant
