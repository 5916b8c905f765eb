-- The lemma is the law.
use Rattle.inline_acceptance.proofs.KeptSizes.{numbering_writable}
use Rattle.inline_acceptance.proofs.laws.numbering_keeps_writable.Goals as goal

pub returns : goal.returns
returns c = numbering_writable
