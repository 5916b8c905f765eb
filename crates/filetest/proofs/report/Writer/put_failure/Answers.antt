use Rattle.filetest.proofs.Telling.{puts_both}
use Rattle.filetest.proofs.report.Writer.put_failure.Goals as goal

pub returns : goal.returns
returns c = puts_both _ _ _ _ _ (rw c.as_slice.ensures.value at c.in_ok-put_labelled.ensures) (rw c.as_slice-2.ensures.value at c.in_ok-put_labelled-2.ensures)
