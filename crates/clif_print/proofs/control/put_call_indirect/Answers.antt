use Rattle.text_output.proofs.Puts.{◌▸◌}
use Rattle.clif_print.proofs.control.put_call_indirect.Goals as goal

pub returns : goal.returns
returns g c =
    rw (← c.as_slice.ensures)
    (c.put_opcode.ensures ▸ c.put.ensures ▸ c.put_signature_reference.ensures ▸ c.put-2.ensures ▸ c.put_value.ensures ▸ c.put_call_arguments.ensures)
