use Rattle.splice_size.proofs.Examples as examples
use Rattle.splice_size.proofs.laws.worked_sizes.Goals as goal

pub returns : goal.returns
returns c = examples.worked_sizes
