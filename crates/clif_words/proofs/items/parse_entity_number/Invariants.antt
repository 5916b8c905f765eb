use Rattle.std.proofs.Common.{◌≡◌, ◌^◌, ◌<◌, drop}
use Rattle.clif_words.specs.Words.{decimal_after}
use Rattle.clif_words.proofs.items.parse_entity_number.Given as goal

abbrev pub invariant-loop-c : goal.invariant-loop-c
invariant-loop-c l = (l.number < 2 ^ 64) × (decimal_after l.number (drop l.c-index l.digits) ≡ decimal_after 0 l.digits)
