-- The lemma is the law.
use Rattle.ir_check.proofs.Firsts as firsts
use Rattle.ir_check.proofs.laws.fault_is_real.Goals as goal

pub returns : goal.returns
returns c = firsts.fault_is_real
