-- The lemma is the law.
use Rattle.settings.proofs.Lines as lines
use Rattle.settings.proofs.laws.some_are_refused.Goals as goal

pub returns : goal.returns
returns c = lines.some_are_refused
