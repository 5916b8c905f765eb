-- The lemma is the law.
use Rattle.ir_check.proofs.ByTests as tests
use Rattle.ir_check.proofs.laws.early_fault.Goals as goal

pub returns : goal.returns
returns c = tests.early
