-- The lemma is the law.
use Rattle.inline_pass.proofs.InOrder.{pass_is_finished}
use Rattle.inline_pass.proofs.laws.pass_is_finished.Goals as goal

pub returns : goal.returns
returns c = pass_is_finished
