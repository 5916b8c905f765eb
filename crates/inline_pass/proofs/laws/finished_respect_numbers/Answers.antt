-- The lemma is the law.
use Rattle.inline_pass.proofs.Others as others
use Rattle.inline_pass.proofs.laws.finished_respect_numbers.Goals as goal

pub returns : goal.returns
returns c = others.finished_respect_numbers
