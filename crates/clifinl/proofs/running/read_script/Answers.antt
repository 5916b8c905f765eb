use Rattle.std.proofs.Common.{◌≤◌, length, arith, subst}
use Rattle.script_text.specs.Grammar as grammar
use Rattle.script_text.specs.Scripts.{Refuses}
use Rattle.clifinl.proofs.Spots.{stops_within}
use Rattle.clifinl.proofs.running.read_script.Goals as goal

pub overflow_add-result : goal.overflow_add-result
overflow_add-result c =
    let near : c.in-Err-BadScript.spot ≤ length c.args.text.now =
    stops_within grammar.script c.args.text.now c.in-Err-BadScript.spot
    (subst (Refuses grammar.script c.args.text.now) c.in-Err-BadScript.field-0-is c.in-Err-BadScript.ensures.refused) in
    omega (arith, near)
