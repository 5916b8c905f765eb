use Rattle.clifinl.proofs.Telling.{some_of_line}
use Rattle.clifinl.proofs.report.tell.Goals as goal

pub returns-in_default-clause-told : goal.returns-in_default-clause-told
returns-in_default-clause-told g c = some_of_line c.report-told.result _ _ _ c.report-told.ensures.whole c.report-told.ensures.part
