use Rattle.std.proofs.Common.{◌-◌}
use Rattle.range_workers.specs.Follow.{ArePartEnds}
use Rattle.range_workers.proofs.ranges.find_cuts.Given as goal

abbrev pub invariant-parts : goal.invariant-parts
invariant-parts g l = record {
  rest : g.P.Ranges.range l.fn.ranges l.at l.fn.end;
  are : ArePartEnds (g.P.Ranges.range l.fn.ranges) l.fn.from l.at l.cuts.items;
}

abbrev pub decreases-parts : goal.decreases-parts
decreases-parts g l = l.fn.end - l.at
