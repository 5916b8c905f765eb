use Rattle.filetest.proofs.OneReport.{can_test_is_not_refused as law}
use Rattle.filetest.proofs.laws.can_test_is_not_refused.Goals as goal

pub returns : goal.returns
returns c = law
