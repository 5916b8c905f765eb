use Rattle.clif_check.proofs.PartLaws.{heads_accepted}
use Rattle.clif_check.proofs.heads.check_stretches.Goals as goal

pub returns : goal.returns
returns g c =
    heads_accepted c.args.text.now c.in_ok-functions.functions.items c.in-Ok-Some.heads c.in_ok-functions.ensures.kept c.in_ok-functions.ensures.few
    (rw c.in-Ok-Some.field-0-is at c.in-Ok-Some.ensures) c.declare_all.ensures.names (c.declare_all.ensures.declared c.if-not-declare_all.false)
