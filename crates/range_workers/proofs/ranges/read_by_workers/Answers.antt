use Rattle.std.proofs.lemmas.Option.{IfSome_then}
use Rattle.range_workers.specs.Follow.{ArePartEnds}
use Rattle.range_workers.proofs.CutsLemmas.{whole_range}
use Rattle.range_workers.proofs.ranges.read_by_workers.Goals as goal

pub returns : goal.returns
returns g c =
    let are : ArePartEnds (g.P.Ranges.range c.args.ranges.now) c.args.from c.args.end c.as_slice.result.now = rw c.as_slice.ensures.value c.in_ok-cuts.ensures in
    IfSome_then c.join_lists.result c.join_lists.ensures
    (λ all is. rw is
    (whole_range (g.P.Ranges.range c.args.ranges.now) (g.P.Ranges.stand c.args.ranges.now) (λ list. list.items) c.args.from c.args.end c.as_slice.result.now c.in_ok-answers.answers.items c.in-Ok.lists.items are
    c.in-Ok.ensures c.in_ok-answers.ensures.number c.in_ok-answers.ensures.each))
