use Rattle.std.proofs.Common.{subst}
use Rattle.std.proofs.Math.ListN.{set}
use Rattle.std.proofs.Common.{sym}
use Rattle.call_graph.specs.Marks.{Marked}
use Rattle.call_graph.proofs.Marking.{mark}
use Rattle.call_graph.proofs.making.add_call.Goals as goal

pub returns-in_ok-push-clause-marked : goal.returns-in_ok-push-clause-marked
returns-in_ok-push-clause-marked c =
    subst (Marked c.args.stamp (set c.args.seen.now.items c.args.target c.args.stamp)) (sym c.in_ok-push.ensures.items) (mark c.args.stamp c.args.target c.args.seen.now.items c.args.calls.now.items c.requires.there c.requires.marked)
