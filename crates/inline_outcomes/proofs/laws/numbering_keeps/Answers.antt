-- The lemma is the law, where an accepted module never gets stuck.
use Rattle.inline_outcomes.proofs.Keeping.{numbering_keeps}
use Rattle.inline_outcomes.proofs.laws.numbering_keeps.Goals as goal

pub returns : goal.returns
returns c = numbering_keeps c.accepted_never_sticks.ensures
