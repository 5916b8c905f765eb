-- The lemma is the law.
use Rattle.clif_check.proofs.Faultless as faultless
use Rattle.clif_check.proofs.laws.faultless_is_accepted.Goals as goal

pub returns : goal.returns
returns c = faultless.faultless_is_accepted
