use Rattle.std.proofs.Common.{◌∙◌, ap, rules, length, ◌<◌, ◌++◌, ◌∷◌, []}
use Rattle.byte_store.specs.Cells.{cell_of, bytes_at}
use Rattle.byte_store.proofs.SlotRoom.{more_slots, same_slot}
use Rattle.byte_store.proofs.slots.Slots.make_room.Goals as goal

pub slots-preserved : goal.slots-preserved
slots-preserved c = ap bytes_at c.in_ok-push.ensures.items ∙ (ap (λ xs. bytes_at (c.slots.self-inside.slots.items ++ xs ∷ [])) c.new.ensures ∙ (more_slots c.slots.self-inside.slots.items ∙ c.slots.invariant))

pub returns-clause-same : goal.returns-clause-same
returns-clause-same c =
    let lt : c.args.slot < length c.slots.self-inside.slots.items = search rules in
    same_slot c.slots.self-inside.slots.items c.args.slot c.make_room.new.self c.index_mut-cells.result.now lt (c.make_room.ensures.same ∙ ap cell_of c.index_mut-cells.ensures.value) ∙ c.slots.invariant
