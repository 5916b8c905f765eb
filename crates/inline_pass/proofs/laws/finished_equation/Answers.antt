-- The lemma is the law.
use Rattle.inline_pass.proofs.Finishing.{finished_equation}
use Rattle.inline_pass.proofs.laws.finished_equation.Goals as goal

pub returns : goal.returns
returns c = finished_equation
