use Rattle.std.proofs.Common.{sym}
use Rattle.test_directives.proofs.Calls.{apart}
use Rattle.test_directives.proofs.functions.are_values.Goals as goal

pub returns-then-params-numbers : goal.returns-then-params-numbers
returns-then-params-numbers c = sym (apart c.args.params.now c.args.numbers.now c.if-params-numbers.true)
