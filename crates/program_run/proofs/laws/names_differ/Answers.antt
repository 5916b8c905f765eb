use Rattle.program_run.proofs.Spellings.{one_name}
use Rattle.program_run.proofs.laws.names_differ.Goals as goal

pub returns : goal.returns
returns c = one_name
