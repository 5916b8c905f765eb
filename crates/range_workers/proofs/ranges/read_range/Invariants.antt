use Rattle.std.proofs.Common.{◌-◌}
use Rattle.range_workers.specs.Follow.{Follow}
use Rattle.range_workers.proofs.ranges.read_range.Given as goal

abbrev pub invariant-stretches : goal.invariant-stretches
invariant-stretches g l = g.P.Ranges.range l.fn.ranges l.at l.fn.end × Follow (g.P.Ranges.stand l.fn.ranges) l.fn.from l.at l.found.items

abbrev pub decreases-stretches : goal.decreases-stretches
decreases-stretches g l = l.fn.end - l.at
