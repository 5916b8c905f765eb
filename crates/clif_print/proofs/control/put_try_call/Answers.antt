use Rattle.text_output.proofs.Puts.{◌▸◌}
use Rattle.clif_print.proofs.control.put_try_call.Goals as goal

pub returns : goal.returns
returns g c =
    rw (← c.as_slice.ensures)
    (c.put_opcode.ensures ▸ c.put.ensures ▸ (c.put_callee_reference.ensures ▸ c.put_call_arguments.ensures) ▸ c.put_outcomes.ensures)
