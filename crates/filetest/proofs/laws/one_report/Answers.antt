use Rattle.filetest.proofs.OneReport.{one_report as law}
use Rattle.filetest.proofs.laws.one_report.Goals as goal

pub returns : goal.returns
returns c = law
