-- The lemma is the law.
use Rattle.settings.proofs.Lines as lines
use Rattle.settings.proofs.laws.table_is_simple.Goals as goal

pub returns : goal.returns
returns c = lines.table_is_simple
