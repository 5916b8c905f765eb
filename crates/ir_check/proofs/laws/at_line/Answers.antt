-- The lemma is the law.
use Rattle.ir_check.proofs.Walking as walking
use Rattle.ir_check.proofs.laws.at_line.Goals as goal

pub returns : goal.returns
returns c = walking.at_line
