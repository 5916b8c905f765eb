-- The lemma is the law.
use Rattle.inline_pass.proofs.Preserving.{finished_writable}
use Rattle.inline_pass.proofs.laws.finished_stay_writable.Goals as goal

pub returns : goal.returns
returns c = finished_writable
