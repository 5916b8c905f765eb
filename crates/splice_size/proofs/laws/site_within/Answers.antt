use Rattle.splice_size.proofs.SpliceSizes as sizes
use Rattle.splice_size.proofs.laws.site_within.Goals as goal

pub returns : goal.returns
returns c = sizes.within_caller
