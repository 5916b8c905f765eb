use Rattle.std.proofs.Common.{◌≡◌, length}
use Rattle.sig_numbers.specs.Index.{IsIndex}
use Rattle.sig_numbers.proofs.Tabled.{Tabling}
use Rattle.sig_numbers.proofs.tables.find_tables.Given as goal

abbrev pub invariant-loop-i : goal.invariant-loop-i
invariant-loop-i l = record {
  index : IsIndex l.index;
  count : length l.tables.items ≡ l.i;
  tabling : Tabling l.index l.«module» l.tables.items;
}
