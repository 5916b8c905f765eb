-- The lemma is the law.
use Rattle.inline_acceptance.proofs.Alone.{splice_alone}
use Rattle.inline_acceptance.proofs.laws.splice_is_accepted_alone.Goals as goal

pub returns : goal.returns
returns c = splice_alone
