use Rattle.std.proofs.Common.{◌≡◌, ◌^◌, ◌<◌, drop}
use Rattle.clif_lex.specs.Numbers.{amount, amount_after}
use Rattle.clif_lex.proofs.numbers.amount.Given as goal

abbrev pub invariant-digits : goal.invariant-digits
invariant-digits l = (l.value < 2 ^ 64) × (amount_after l.radix l.value (drop l.c-index l.digits) ≡ amount l.radix l.digits)
