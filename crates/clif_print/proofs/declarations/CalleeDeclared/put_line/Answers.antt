use Rattle.text_output.proofs.Puts.{◌▸◌}
use Rattle.clif_print.proofs.declarations.CalleeDeclared.put_line.Goals as goal

pub returns : goal.returns
returns g c = c.put.ensures ▸ c.put_number.ensures ▸ c.put-2.ensures ▸ c.put_colocation.ensures ▸ c.put_name.ensures ▸ c.put-3.ensures ▸ c.put_signature_reference.ensures ▸ c.put-4.ensures
