use Rattle.splice_size.proofs.SpliceSizes as sizes
use Rattle.splice_size.proofs.laws.size_of_splice.Goals as goal

pub returns : goal.returns
returns c = sizes.size_of_splice
