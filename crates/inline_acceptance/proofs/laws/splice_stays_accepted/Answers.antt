-- The lemma is the law.
use Rattle.inline_acceptance.proofs.KeptModules.{splice_accepted}
use Rattle.inline_acceptance.proofs.laws.splice_stays_accepted.Goals as goal

pub returns : goal.returns
returns c = splice_accepted
