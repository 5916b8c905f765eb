use Rattle.text_output.proofs.Puts.{◌▸◌}
use Rattle.std.proofs.lemmas.Int.{to_z-of_z}
use Rattle.clif_print.proofs.instructions.put_stack_store.Goals as goal

pub returns : goal.returns
returns g c =
    c.put_opcode.ensures ▸ c.put_suffix_if.ensures ▸ c.put.ensures ▸ (simp (to_z-of_z, c.ranges.offset) at c.put_stored_in_slot.ensures)
