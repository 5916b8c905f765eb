-- The lemma is the law.
use Rattle.inline_outcomes.proofs.Keeping.{splice_keeps_runs}
use Rattle.inline_outcomes.proofs.laws.splice_keeps_runs.Goals as goal

pub returns : goal.returns
returns c = splice_keeps_runs
