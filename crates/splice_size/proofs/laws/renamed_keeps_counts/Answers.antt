use Rattle.splice_size.proofs.SpliceSizes as sizes
use Rattle.splice_size.proofs.laws.renamed_keeps_counts.Goals as goal

pub returns : goal.returns
returns c = sizes.counts_renamed
