use Rattle.inline_numbering.proofs.Sizes as sizes
use Rattle.inline_numbering.proofs.laws.renamed_keeps_size.Goals as goal

pub returns : goal.returns
returns c = sizes.size_renamed
