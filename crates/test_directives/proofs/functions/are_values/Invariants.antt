use Rattle.std.proofs.Common.{◌≡◌, drop}
use Rattle.test_directives.specs.Tests.{are_values}
use Rattle.test_directives.proofs.functions.are_values.Given as goal

abbrev pub invariant-params : goal.invariant-params
invariant-params l = are_values (drop l.i l.params) (drop l.i l.numbers) ≡ are_values l.params l.numbers
