use Rattle.std.proofs.Common.{◌∙◌, refl, arith}
use Rattle.clif_insts.proofs.Counted.{counted, not_counted, all_counted}
use Rattle.clif_insts.proofs.insts.find_place.Goals as goal

pub counted-init : goal.counted-init
counted-init c = (c.requires, refl)

pub counted-preserved : goal.counted-preserved
counted-preserved c = (omega arith, counted c.args.tokens.now c.counted.place c.args.spot c.get.result c.get.ensures c.if-get-spot.true ∙ c.counted.invariant.1)

pub returns-else-get-spot : goal.returns-else-get-spot
returns-else-get-spot c = not_counted c.args.tokens.now c.counted.place c.args.spot c.get.result c.get.ensures c.if-get-spot.false ∙ c.counted.invariant.1

pub returns-after-counted : goal.returns-after-counted
returns-after-counted c = all_counted c.args.tokens.now c.counted.place c.args.spot (omega arith) ∙ c.counted.invariant.1
