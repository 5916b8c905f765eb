-- The lemma is the law.
use Rattle.interp.proofs.Entries.{numbers_enter}
use Rattle.interp.proofs.laws.numbers_enter.Goals as goal

pub returns : goal.returns
returns c = numbers_enter
