use Rattle.inline_numbering.proofs.Canonical as canonical
use Rattle.inline_numbering.proofs.laws.canonical_module_is_same.Goals as goal

pub returns : goal.returns
returns c = canonical.canonical_module_is_same
