use Rattle.clif_names.proofs.FaultLaws.{one_first_fault}
use Rattle.clif_names.proofs.laws.one_first_fault.Goals as goal

pub returns : goal.returns
returns c = one_first_fault
