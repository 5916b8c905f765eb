use Rattle.std.proofs.Common.{sym, subst}
use Rattle.ir_text.specs.Writable.{Writable}
use Rattle.inline_finish.specs.Building.{policy_of}
use Rattle.module_pass.proofs.passing.pass.Goals as goal

pub returns-clause-writable : goal.returns-clause-writable
returns-clause-writable g c writable =
    let module_is = c.module-functions.ensures in
    subst Writable (sym c.of_accepted.ensures)
    (c.renumbered_finished_stay_writable.ensures (policy_of c.args.policy) c.requires.limited.caller_size _ _ module_is.functions module_is.accepted
    (subst Writable (sym module_is.same) writable) c.in_ok-passed.ensures.finished)
