-- The lemma is the law.
use Rattle.clif_check.proofs.Stages as stages
use Rattle.clif_check.proofs.laws.one_module.Goals as goal

pub returns : goal.returns
returns c = stages.one_module
