-- The lemma is the law, where an accepted module never gets stuck.
use Rattle.inline_outcomes.proofs.Keeping.{splice_keeps}
use Rattle.inline_outcomes.proofs.laws.splice_keeps.Goals as goal

pub returns : goal.returns
returns c = splice_keeps c.accepted_never_sticks.ensures
