use Rattle.test_directives.proofs.Examples.{worked_comments}
use Rattle.test_directives.proofs.laws.worked_comments.Goals as goal

pub returns : goal.returns
returns c = worked_comments
