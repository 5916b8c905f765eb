use Rattle.clif_check.proofs.PartLaws.{functions_accepted, kept_are_whole}
use Rattle.clif_check.proofs.checking.check_in_stretches.Goals as goal

pub of_functions-requires : goal.of_functions-requires
of_functions-requires g c = kept_are_whole c.args.text.now c.in_ok-functions.functions.items c.in_ok-functions.ensures.kept

pub of_accepted-requires : goal.of_accepted-requires
of_accepted-requires g c =
    (functions_accepted c.args.text.now c.in_ok-functions.functions.items c.in-Ok-Some.module c.in_ok-functions.ensures.kept c.in_ok-functions.ensures.few
    (rw c.in-Ok-Some.field-0-is at c.in-Ok-Some.ensures.functions) c.declare_all.ensures.names (c.declare_all.ensures.declared c.if-not-declare_all.false)).accepted

pub returns : goal.returns
returns g c =
    rw c.of_accepted.ensures
    (functions_accepted c.args.text.now c.in_ok-functions.functions.items c.in-Ok-Some.module c.in_ok-functions.ensures.kept c.in_ok-functions.ensures.few
    (rw c.in-Ok-Some.field-0-is at c.in-Ok-Some.ensures.functions) c.declare_all.ensures.names (c.declare_all.ensures.declared c.if-not-declare_all.false))
