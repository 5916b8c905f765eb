-- The lemma is the law.
use Rattle.inline_outcomes.proofs.Numbering.{numbering_keeps_runs}
use Rattle.inline_outcomes.proofs.laws.numbering_keeps_runs.Goals as goal

pub returns : goal.returns
returns c = numbering_keeps_runs
