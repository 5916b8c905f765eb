use Rattle.print_workers.proofs.PartsLemmas.{whole_part}
use Rattle.print_workers.proofs.putting.put_functions.Goals as goal

pub returns : goal.returns
returns g c = whole_part c.len.ensures c.put_part.ensures
