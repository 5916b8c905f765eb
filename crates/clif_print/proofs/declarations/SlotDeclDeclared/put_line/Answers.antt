use Rattle.text_output.proofs.Puts.{◌▸◌}
use Rattle.clif_print.proofs.declarations.SlotDeclDeclared.put_line.Goals as goal

pub returns : goal.returns
returns g c = c.put.ensures ▸ c.put_number.ensures ▸ c.put-2.ensures ▸ c.put_number-2.ensures ▸ c.put_alignment.ensures ▸ c.put-3.ensures
