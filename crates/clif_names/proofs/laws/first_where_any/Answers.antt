use Rattle.clif_names.proofs.FaultLaws.{first_where_any}
use Rattle.clif_names.proofs.laws.first_where_any.Goals as goal

pub returns : goal.returns
returns c = first_where_any
