use Rattle.text_output.proofs.Puts.{◌▸◌}
use Rattle.canonical_text.proofs.functions.put_further_function.Goals as goal

pub returns : goal.returns
returns g c = c.put.ensures ▸ c.put_function.ensures
