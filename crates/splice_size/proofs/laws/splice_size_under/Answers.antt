use Rattle.splice_size.proofs.SpliceSizes as sizes
use Rattle.splice_size.proofs.laws.splice_size_under.Goals as goal

pub returns : goal.returns
returns c = sizes.splice_size_under
