use Rattle.inline_numbering.proofs.Places as places
use Rattle.inline_numbering.proofs.laws.splice_stays_whole.Goals as goal

pub returns : goal.returns
returns c = places.splice_stays_whole
