use Rattle.text_output.proofs.Sinks.{ends_well, ends_failed}
use Rattle.text_output.proofs.sink_output.SinkOutput.finish.Goals as goal

pub returns-then-self-clause-ends : goal.returns-then-self-clause-ends
returns-then-self-clause-ends g c = ends_failed _ _ _ c.flush.ensures.takes c.if-self.true

pub returns-else-self-clause-ends : goal.returns-else-self-clause-ends
returns-else-self-clause-ends g c = ends_well _ _ _ c.flush.ensures.takes c.flush.ensures.empty c.if-self.false
