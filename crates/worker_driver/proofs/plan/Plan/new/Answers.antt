use Rattle.std.proofs.Common.{sym, ◌∙◌, subst}
use Rattle.worker_driver.specs.Plans.{IsListing}
use Rattle.worker_driver.proofs.Orders.{listing}
use Rattle.worker_driver.proofs.plan.Plan.new.Goals as goal

pub places-requires : goal.places-requires
places-requires g c = let d = c.len-count.ensures.functions.names in
    let o = c.in_ok-order.ensures c.args.«module».now d c.in_ok-graph.ensures in
    subst IsListing (sym (c.as_slice.ensures ∙ o.list)) (listing c.args.«module».now d)
