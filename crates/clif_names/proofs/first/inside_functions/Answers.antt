use Rattle.std.proofs.Common.{◌≤◌, length, arith}
use Rattle.std.proofs.lemmas.List.{take_all}
use Rattle.clif_names.proofs.FirstLaws.{one_more_function}
use Rattle.clif_names.proofs.first.inside_functions.Goals as goal

pub loop-func-preserved : goal.loop-func-preserved
loop-func-preserved c =
    rw c.join-least.ensures (one_more_function c.args.functions.now c.loop-func.func-index c.func-item.result c.func-item.result c.loop-func.least c.least.result c.loop-func-test.true c.func-item.is c.loop-func.invariant c.least.ensures)

pub returns : goal.returns
returns c =
    let all : length c.args.functions.now ≤ c.loop-func.func-index = omega arith in
    rw (take_all c.loop-func.func-index c.args.functions.now all) at c.loop-func.invariant
