-- The lemma is the law.
use Rattle.settings.proofs.Lines as lines
use Rattle.settings.proofs.laws.some_have_settings.Goals as goal

pub returns : goal.returns
returns c = lines.some_have_settings
