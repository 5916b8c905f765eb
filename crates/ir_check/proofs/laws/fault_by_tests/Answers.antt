-- The lemma is the law.
use Rattle.ir_check.proofs.ByTests as tests
use Rattle.ir_check.proofs.laws.fault_by_tests.Goals as goal

pub returns : goal.returns
returns c = tests.fault_by_tests
