use Rattle.grammar.proofs.Exact.{exact}
use Rattle.test_directives.specs.Frame as frame
use Rattle.test_directives.specs.Frame.{run_is_good}
use Rattle.test_directives.proofs.laws.one_reading.Goals as goal

pub returns : goal.returns
returns c = λ tokens. exact frame.run run_is_good tokens
