-- The lemma is the law.
use Rattle.ir_check.proofs.Faultless as faultless
use Rattle.ir_check.proofs.laws.faultless_is_accepted.Goals as goal

pub returns : goal.returns
returns c = faultless.faultless_is_accepted
