-- The lemmas are the laws.
use Rattle.gen_mod.proofs.Acceptance.{generated_is_module, generated_accepted, generated_writable}
use Rattle.gen_mod.proofs.laws.generated_is_accepted.Goals as goal

pub returns-clause-module : goal.returns-clause-module
returns-clause-module c = generated_is_module

pub returns-clause-accepted : goal.returns-clause-accepted
returns-clause-accepted c = generated_accepted

pub returns-clause-writable : goal.returns-clause-writable
returns-clause-writable c = generated_writable
