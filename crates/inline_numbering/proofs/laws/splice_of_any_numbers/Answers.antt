use Rattle.inline_numbering.proofs.AnyNumbers as any
use Rattle.inline_numbering.proofs.laws.splice_of_any_numbers.Goals as goal

pub returns : goal.returns
returns c = any.splice_of_any_numbers
