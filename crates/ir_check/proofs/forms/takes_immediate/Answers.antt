use Rattle.clif_words.proofs.OpcodesOf.{immediate_form}
use Rattle.ir_check.proofs.forms.takes_immediate.Goals as goal

pub returns : goal.returns
returns c = rw (← immediate_form c.args.op, ← c.of_immediate.ensures) c.is_some.ensures
