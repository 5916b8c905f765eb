use Rattle.std.proofs.Common.{◌∙◌, ap, ◌<◌, length, subst, sym}
use Rattle.byte_store.specs.Cells.{cell_of, put_cell}
use Rattle.byte_store.proofs.Room.{set_is_put}
use Rattle.byte_store.proofs.cells.Cells.set.Goals as goal

pub returns-clause-written : goal.returns-clause-written
returns-clause-written g c =
    let lt : c.args.at < length c.self.inside.cells.items = subst (λ xs. c.args.at < length xs) (sym c.self.view_is) c.requires in
    set_is_put c.self.inside.cells.items c.args.at c.args.value lt ∙ ap (λ xs. put_cell (cell_of xs) c.args.at c.args.value) c.self.view_is
