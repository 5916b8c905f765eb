use Rattle.std.proofs.Common.{◌∙◌, ap, length, ◌<◌, subst, sym}
use Rattle.byte_store.specs.Cells.{cell_of, put_cell, bytes_at}
use Rattle.byte_store.proofs.SlotRoom.{put_slot}
use Rattle.ir_semantics.specs.Values.{put_byte}
use Rattle.byte_store.proofs.slots.Slots.set.Goals as goal

pub returns-clause-written : goal.returns-clause-written
returns-clause-written c =
    let lt : c.args.slot < length c.self.inside.slots.items = subst (λ ss. c.args.slot < length ss) (sym c.self.view_is) c.requires.slot in
    put_slot c.self.inside.slots.items c.args.slot c.set.new.self c.index_mut-cells.result.now c.args.offset c.args.byte lt (c.set.ensures.written ∙ ap (λ xs. put_cell (cell_of xs) c.args.offset c.args.byte) c.index_mut-cells.ensures.value) ∙ ap (λ ss. put_byte (bytes_at ss) c.args.slot c.args.offset c.args.byte) c.self.view_is
