-- The lemma is the law.
use Rattle.ir_check.proofs.Firsts as firsts
use Rattle.ir_check.proofs.laws.at_most_one.Goals as goal

pub returns : goal.returns
returns c = firsts.at_most_one
