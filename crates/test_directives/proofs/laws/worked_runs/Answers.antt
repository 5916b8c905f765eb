use Rattle.test_directives.proofs.Examples.{worked_runs, refused_runs}
use Rattle.test_directives.proofs.laws.worked_runs.Goals as goal

pub returns-clause-read : goal.returns-clause-read
returns-clause-read c = worked_runs

pub returns-clause-refused : goal.returns-clause-refused
returns-clause-refused c = refused_runs
