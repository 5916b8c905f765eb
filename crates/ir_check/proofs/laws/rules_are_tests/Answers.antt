-- The lemma is the law.
use Rattle.ir_check.proofs.ByTests as tests
use Rattle.ir_check.proofs.laws.rules_are_tests.Goals as goal

pub returns : goal.returns
returns c = tests.rules_are_tests
