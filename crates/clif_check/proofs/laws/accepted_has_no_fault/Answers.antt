-- The lemma is the law.
use Rattle.clif_check.proofs.Stages as stages
use Rattle.clif_check.proofs.laws.accepted_has_no_fault.Goals as goal

pub returns : goal.returns
returns c = stages.accepted_has_no_fault
