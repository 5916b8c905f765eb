use Rattle.std.proofs.Common.{sym, ◌∙◌, ap, ◌<◌, ◌≤◌, length, rules}
use Rattle.byte_store.specs.Cells.{cell_of}
use Rattle.byte_store.proofs.Room.{cell_within, cell_past}
use Rattle.byte_store.proofs.cells.Cells.get.Goals as goal

pub returns-then-at-len : goal.returns-then-at-len
returns-then-at-len g c =
    let lt : c.args.at < length c.self.inside.cells.items = search rules in
    c.index.ensures ∙ (cell_within c.self.inside.cells.items c.args.at c.index.result.now lt ∙ ap (λ xs. cell_of xs c.args.at) c.self.view_is)

pub returns-else-at-len : goal.returns-else-at-len
returns-else-at-len g c =
    let le : length c.self.inside.cells.items ≤ c.args.at = search rules in
    sym (cell_past c.self.inside.cells.items c.args.at le) ∙ ap (λ xs. cell_of xs c.args.at) c.self.view_is
