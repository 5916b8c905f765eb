-- The lemma is the law.
use Rattle.clif_check.proofs.FirstFaults as faults
use Rattle.clif_check.proofs.laws.one_first_fault.Goals as goal

pub returns : goal.returns
returns c = faults.one_first_fault
