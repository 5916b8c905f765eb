use Rattle.std.proofs.Common.{◌≡◌, ◌+◌, ◌<◌, length}
use Rattle.std.specs.Prelude.{sum_by}
use Rattle.name_tables.specs.declared.links.End.{End}
use Rattle.name_tables.specs.Links.{AreRight, AreBelow, Means, to_pass}
use Rattle.name_tables.proofs.Walks.{Leads}
use Rattle.name_tables.proofs.links.walk.Given as goal

abbrev pub invariant-walk : goal.invariant-walk
invariant-walk l = record {
  in_range : l.at < length l.links;
  as_long : length l.marks ≡ length l.links;
  right : AreRight l.links l.marks;
  below : AreBelow (l.start + 1) l.marks;
  leads : Leads l.links l.marks l.start l.at;
  same_end : (e : End) → Means l.links e l.at → Means l.links e l.start;
}

abbrev pub decreases-walk : goal.decreases-walk
decreases-walk l = sum_by (to_pass l.start) l.marks
