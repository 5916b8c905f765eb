use Rattle.inline_numbering.proofs.Same as same
use Rattle.inline_numbering.proofs.laws.renamed_is_same.Goals as goal

pub returns : goal.returns
returns c = same.renamed_is_same
