use Rattle.inline_numbering.proofs.Places as places
use Rattle.inline_numbering.proofs.laws.splice_renamed.Goals as goal

pub returns : goal.returns
returns c = places.splice_renamed
