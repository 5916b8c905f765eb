-- The lemma is the law.
use Rattle.inline_acceptance.proofs.KeptCanon.{numbering_accepted}
use Rattle.inline_acceptance.proofs.laws.numbering_keeps_acceptance.Goals as goal

pub returns : goal.returns
returns c = numbering_accepted
