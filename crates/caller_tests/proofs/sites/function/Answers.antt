use Rattle.inline_acceptance.proofs.Alone.{free_of}
use Rattle.ir_core.proofs.Gets.{get_in}
use Rattle.caller_tests.proofs.sites.function.Goals as goal

pub returns-clause-accepted : goal.returns-clause-accepted
returns-clause-accepted c =
    let f = c.func.result.now.function in
    (free_of c.args.from.now f c.func.ensures.whole (c.requires.accepted f (get_in c.args.from.now c.args.index f c.func.ensures.at))).accepted
