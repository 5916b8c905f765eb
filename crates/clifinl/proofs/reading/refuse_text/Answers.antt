use Rattle.std.proofs.Common.{subst}
use Rattle.clif_lex.specs.declared.faults.TextErr.{TextErr}
use Rattle.clif_check.specs.Faults.{IsFault}
use Rattle.clifinl.proofs.reading.refuse_text.Goals as goal

pub returns-in-Fault : goal.returns-in-Fault
returns-in-Fault c = λ before after faults now whole fault.
    (c.args.text.now, whole, (c.in-Fault.spot, subst (λ (err : TextErr). IsFault c.args.text.now err) c.in-Fault.is fault, c.place_of-place.ensures))
