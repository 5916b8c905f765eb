use Rattle.clifinl.proofs.Telling.{some_of_line}
use Rattle.clifinl.proofs.report.tell_bad_word.Goals as goal

pub returns-clause-told : goal.returns-clause-told
returns-clause-told g c = some_of_line c.put_numbered-told.result _ _ _ c.put_numbered-told.ensures.whole c.put_numbered-told.ensures.part
