use Rattle.clif_names.proofs.Examples.{worked_faults, worked_freedom, worked_sizes}
use Rattle.clif_names.proofs.laws.worked_texts.Goals as goal

pub returns-clause-faults : goal.returns-clause-faults
returns-clause-faults c = worked_faults

pub returns-clause-freedom : goal.returns-clause-freedom
returns-clause-freedom c = worked_freedom

pub returns-clause-sizes : goal.returns-clause-sizes
returns-clause-sizes c = worked_sizes
