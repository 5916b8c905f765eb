use Rattle.splice_size.proofs.SpliceSizes as sizes
use Rattle.splice_size.proofs.laws.size_by_counts.Goals as goal

pub returns : goal.returns
returns c = sizes.size_by_counts
