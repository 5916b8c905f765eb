-- The lemma is the law.
use Rattle.ir_check.proofs.Firsts as firsts
use Rattle.ir_check.proofs.laws.accepted_or_fault.Goals as goal

pub returns : goal.returns
returns c = firsts.accepted_or_fault
