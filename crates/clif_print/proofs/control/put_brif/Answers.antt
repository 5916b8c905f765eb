use Rattle.text_output.proofs.Puts.{◌▸◌}
use Rattle.clif_print.proofs.control.put_brif.Goals as goal

pub returns : goal.returns
returns g c =
    c.put_opcode.ensures ▸ c.put_suffix_if.ensures ▸ c.put.ensures ▸ c.put_value.ensures
    ▸ c.put-2.ensures ▸ c.put_target.ensures ▸ c.put-3.ensures ▸ c.put_target-2.ensures
