use Rattle.splice_size.proofs.SpliceSizes as sizes
use Rattle.splice_size.proofs.laws.size_after_under.Goals as goal

pub returns : goal.returns
returns c = sizes.size_after_under
