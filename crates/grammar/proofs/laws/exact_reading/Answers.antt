use Rattle.grammar.proofs.Exact.{exact}
use Rattle.grammar.proofs.laws.exact_reading.Goals as goal

pub returns : goal.returns
returns c = exact
