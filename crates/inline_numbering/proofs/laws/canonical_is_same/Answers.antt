use Rattle.inline_numbering.proofs.Canonical as canonical
use Rattle.inline_numbering.proofs.laws.canonical_is_same.Goals as goal

pub returns : goal.returns
returns c = canonical.canonical_is_same
