-- The lemma is the law.
use Rattle.grammar.proofs.OneStop as stops
use Rattle.grammar.proofs.laws.one_stop.Goals as goal

pub returns : goal.returns
returns c = stops.one_stop
