use Rattle.text_output.proofs.Puts.{◌▸◌}
use Rattle.clif_print.proofs.control.put_trapz.Goals as goal

pub returns : goal.returns
returns g c =
    c.put_opcode.ensures ▸ c.put_suffix_if.ensures ▸ c.put.ensures ▸ c.put_value.ensures ▸ c.put-2.ensures ▸ c.put_trap_code.ensures
