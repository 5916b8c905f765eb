use Rattle.std.proofs.Common.{◌≡◌, ◌+◌, ◌<◌, length}
use Rattle.std.specs.Prelude.{sum_by}
use Rattle.name_tables.specs.Links.{AreRight, AreBelow, Means, passed}
use Rattle.name_tables.proofs.links.settle.Given as goal

abbrev pub invariant-settle : goal.invariant-settle
invariant-settle l = record {
  in_range : l.at < length l.links;
  as_long : length l.marks ≡ length l.links;
  right : AreRight l.links l.marks;
  below : AreBelow (l.start + 1) l.marks;
  means : Means l.links l.end l.at;
}

abbrev pub decreases-settle : goal.decreases-settle
decreases-settle l = sum_by (passed l.start) l.marks
