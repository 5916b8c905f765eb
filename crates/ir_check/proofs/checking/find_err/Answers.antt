use Rattle.ir_check.proofs.Firsts.{accepted_of}
use Rattle.ir_check.proofs.checking.find_err.Goals as goal

pub returns-in-Ok-None : goal.returns-in-Ok-None
returns-in-Ok-None c = accepted_of c.args.«module».now (rw c.in-Ok-None.field-0-is at c.in-Ok-None.ensures)

pub returns-in-Ok-Some : goal.returns-in-Ok-Some
returns-in-Ok-Some c = rw c.in-Ok-Some.field-0-is at c.in-Ok-Some.ensures
