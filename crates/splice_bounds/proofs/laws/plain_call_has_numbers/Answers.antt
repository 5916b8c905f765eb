use Rattle.splice_bounds.proofs.Bounds as bounds
use Rattle.splice_bounds.proofs.laws.plain_call_has_numbers.Goals as goal

pub returns : goal.returns
returns c = bounds.plain_call_has_numbers
