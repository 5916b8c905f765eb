-- The lemma is the law.
use Rattle.ir_check.proofs.Firsts as firsts
use Rattle.ir_check.proofs.laws.all_passed.Goals as goal

pub returns : goal.returns
returns c = firsts.all_passed
