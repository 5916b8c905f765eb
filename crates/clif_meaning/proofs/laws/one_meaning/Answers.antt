use Rattle.clif_meaning.proofs.OneMeaning.{one_meaning}
use Rattle.clif_meaning.proofs.laws.one_meaning.Goals as goal

pub returns : goal.returns
returns c = one_meaning
