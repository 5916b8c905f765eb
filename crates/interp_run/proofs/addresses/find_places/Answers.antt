use Rattle.std.proofs.Common.{◌∙◌}
use Rattle.interp_run.proofs.Addressing.{places_more}
use Rattle.interp_run.proofs.addresses.find_places.Goals as goal

pub names-preserved : goal.names-preserved
names-preserved c =
    c.in_ok-push.ensures.items
    ∙ places_more c.args.module.now c.args.names.now c.names.mention-index c.mention-item.result c.names.places.items c.find.result c.names-test.true c.mention-item.is c.names.invariant c.find.ensures.place
