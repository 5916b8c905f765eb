-- The lemma is the law.
use Rattle.inline_pass.proofs.Preserving.{finished_accepted}
use Rattle.inline_pass.proofs.laws.finished_stay_accepted.Goals as goal

pub returns : goal.returns
returns c = finished_accepted
