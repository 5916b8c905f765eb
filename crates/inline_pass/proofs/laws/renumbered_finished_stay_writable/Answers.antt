-- The lemma is the law.
use Rattle.inline_pass.proofs.Preserving.{renumbered_finished_writable}
use Rattle.inline_pass.proofs.laws.renumbered_finished_stay_writable.Goals as goal

pub returns : goal.returns
returns c = renumbered_finished_writable
