use Rattle.clif_meaning.proofs.Existence.{has_meaning}
use Rattle.clif_meaning.proofs.laws.has_meaning.Goals as goal

pub returns : goal.returns
returns c = has_meaning
