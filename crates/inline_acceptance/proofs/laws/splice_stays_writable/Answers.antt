-- The lemma is the law.
use Rattle.inline_acceptance.proofs.KeptWritable.{splice_writable}
use Rattle.inline_acceptance.proofs.laws.splice_stays_writable.Goals as goal

pub returns : goal.returns
returns c = splice_writable
