use Rattle.text_output.proofs.Puts.{◌▸◌}
use Rattle.clif_print.proofs.control.put_outcomes.Goals as goal

pub returns : goal.returns
returns g c =
    rw (← c.entries.ensures)
    (c.put.ensures ▸ c.put_signature_reference.ensures ▸ c.put-2.ensures ▸ c.put_target.ensures ▸ c.put-3.ensures ▸ c.put_exception_table.ensures)
