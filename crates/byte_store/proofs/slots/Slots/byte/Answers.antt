use Rattle.std.proofs.Common.{◌∙◌, ap, rules, length, ◌<◌, ◌≤◌}
use Rattle.byte_store.specs.Cells.{cell_of, bytes_at}
use Rattle.byte_store.proofs.SlotRoom.{byte_there, byte_past}
use Rattle.byte_store.proofs.slots.Slots.byte.Goals as goal

pub returns-then-slot-len : goal.returns-then-slot-len
returns-then-slot-len c =
    let lt : c.args.slot < length c.self.inside.slots.items = search rules in
    c.get.ensures ∙ (ap (λ xs. cell_of xs c.args.offset) c.index.ensures ∙ (byte_there c.self.inside.slots.items c.args.slot c.index.result.now c.args.offset lt ∙ ap (λ xs. bytes_at xs c.args.slot c.args.offset) c.self.view_is))

pub returns-else-slot-len : goal.returns-else-slot-len
returns-else-slot-len c =
    let le : length c.self.inside.slots.items ≤ c.args.slot = search rules in
    byte_past c.self.inside.slots.items c.args.slot c.args.offset le ∙ ap (λ xs. bytes_at xs c.args.slot c.args.offset) c.self.view_is
