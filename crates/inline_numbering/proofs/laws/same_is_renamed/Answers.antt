use Rattle.inline_numbering.proofs.Same as same
use Rattle.inline_numbering.proofs.laws.same_is_renamed.Goals as goal

pub returns : goal.returns
returns c = same.same_is_renamed
