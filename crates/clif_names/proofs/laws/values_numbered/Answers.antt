use Rattle.clif_names.proofs.ValueLaws.{values_numbered}
use Rattle.clif_names.proofs.laws.values_numbered.Goals as goal

pub returns : goal.returns
returns c = values_numbered
