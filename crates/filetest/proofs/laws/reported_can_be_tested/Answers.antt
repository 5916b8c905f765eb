use Rattle.filetest.proofs.OneReport.{reported_can_be_tested as law}
use Rattle.filetest.proofs.laws.reported_can_be_tested.Goals as goal

pub returns : goal.returns
returns c = law
