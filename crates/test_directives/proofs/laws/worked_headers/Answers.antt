use Rattle.test_directives.proofs.Examples.{worked_headers}
use Rattle.test_directives.proofs.laws.worked_headers.Goals as goal

pub returns : goal.returns
returns c = worked_headers
