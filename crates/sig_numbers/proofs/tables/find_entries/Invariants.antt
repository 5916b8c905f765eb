use Rattle.std.proofs.Common.{◌≡◌, Some, take, map}
use Rattle.sig_numbers.specs.Index.{IsIndex, Keeps, number_of}
use Rattle.sig_numbers.specs.Tables.{numbers_in, flags_in, return_alike}
use Rattle.sig_numbers.proofs.tables.find_entries.Given as goal

abbrev pub invariant-loop-sig : goal.invariant-loop-sig
invariant-loop-sig l = record {
  index : IsIndex l.index;
  keeps : Keeps l.fn.index l.index;
  numbers : map Some (numbers_in l.entries.items) ≡ map (number_of l.index) (take l.sig-index l.sigs);
  flags : flags_in l.entries.items ≡ map (return_alike l.own) (take l.sig-index l.sigs);
}
