use Rattle.text_output.proofs.Puts.{◌▸◌}
use Rattle.clif_print.proofs.instructions.put_func_addr.Goals as goal

pub returns : goal.returns
returns g c =
    c.put_opcode.ensures ▸ c.put.ensures ▸ c.put_callee_reference.ensures
