use Rattle.std.proofs.Common.{◌≡◌, ℕ, ◌<◌, length, get_or}
use Rattle.name_tables.specs.declared.links.End.TheVariants.{Nowhere}
use Rattle.name_tables.specs.Links.{AreRight, AreBelow, Means}
use Rattle.name_tables.proofs.links.list_ends.Given as goal

abbrev pub invariant-loop-i : goal.invariant-loop-i
invariant-loop-i l = record {
  as_long : length l.marks.items ≡ length l.links;
  right : AreRight l.links l.marks.items;
  below : AreBelow l.i l.marks.items;
  so_far : length l.ends.items ≡ l.i;
  means : (k : ℕ) → k < l.i → Means l.links (get_or l.ends.items k Nowhere) k;
}
