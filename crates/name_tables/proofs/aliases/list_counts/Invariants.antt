use Rattle.std.proofs.Common.{◌≡◌, ◌≤◌, length, take}
use Rattle.ir_core.specs.Size.{total}
use Rattle.name_tables.specs.Aliases.{value_count}
use Rattle.name_tables.proofs.Counts.{Counted}
use Rattle.name_tables.proofs.aliases.list_counts.Given as goal

abbrev pub invariant-loop-first : goal.invariant-loop-first
invariant-loop-first l = record {
  long : length l.counts.items ≡ l.first-index;
  each : Counted l.firsts l.counts.items l.first-index;
  count : l.count ≡ total value_count (take l.first-index l.firsts);
  small : l.count ≤ l.first-index;
}
