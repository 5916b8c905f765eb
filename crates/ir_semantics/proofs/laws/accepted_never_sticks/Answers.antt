-- The lemma is the law.
use Rattle.ir_semantics.proofs.SafetyRuns.{accepted_never_sticks}
use Rattle.ir_semantics.proofs.laws.accepted_never_sticks.Goals as goal

pub returns : goal.returns
returns c = accepted_never_sticks
