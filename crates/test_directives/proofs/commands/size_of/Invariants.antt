use Rattle.std.proofs.Common.{◌≡◌, ◌≤◌, take}
use Rattle.test_directives.specs.Commands.{digits_value, most_size}
use Rattle.test_directives.proofs.commands.size_of.Given as goal

abbrev pub invariant-loop-digit : goal.invariant-loop-digit
invariant-loop-digit l = record {
  value : l.size ≡ digits_value 0 (take l.digit-index l.digits);
  small : l.size ≤ most_size;
}
