use Rattle.std.proofs.Common.{◌≡◌, ◌^◌, ◌<◌, true, take, drop}
use Rattle.std.specs.Char.{is_ascii_digit}
use Rattle.std.specs.List.{list_all}
use Rattle.clif_words.specs.Words.{decimal_after}
use Rattle.clif_words.proofs.items.parse_value_number.Given as goal

abbrev pub invariant-loop-c : goal.invariant-loop-c
invariant-loop-c l = record {
  below : l.number < 10 ^ l.c-index;
  digits : list_all is_ascii_digit (take l.c-index l.digits) ≡ true;
  value : decimal_after l.number (drop l.c-index l.digits) ≡ decimal_after 0 l.digits;
}
