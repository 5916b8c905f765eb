-- The lemma is the law, where an accepted module never gets stuck.
use Rattle.inline_pass.proofs.Outcomes.{renumbered_finished_keep}
use Rattle.inline_pass.proofs.laws.renumbered_finished_keep.Goals as goal

pub returns : goal.returns
returns c = renumbered_finished_keep c.accepted_never_sticks.ensures
