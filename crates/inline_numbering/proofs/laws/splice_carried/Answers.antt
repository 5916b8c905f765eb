use Rattle.inline_numbering.proofs.Places as places
use Rattle.inline_numbering.proofs.laws.splice_carried.Goals as goal

pub returns : goal.returns
returns c = places.splice_carried
