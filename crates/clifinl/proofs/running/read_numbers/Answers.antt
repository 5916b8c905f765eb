use Rattle.std.proofs.Common.{subst}
use Rattle.script_text.specs.Grammar as grammar
use Rattle.script_text.specs.Scripts.{Refuses}
use Rattle.clifinl.proofs.RunEnds.{no_list}
use Rattle.clifinl.proofs.running.read_numbers.Goals as goal

pub returns-in-Err-BadScript-clause-refused : goal.returns-in-Err-BadScript-clause-refused
returns-in-Err-BadScript-clause-refused c =
    no_list c.args.text.now c.in-Err-BadScript.field-0-0
    (subst (Refuses grammar.number_list c.args.text.now) c.in-Err-BadScript.field-0-is c.in-Err-BadScript.ensures.refused)
