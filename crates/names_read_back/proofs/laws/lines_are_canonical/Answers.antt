use Rattle.names_read_back.proofs.Numbers.{line_canonical}
use Rattle.names_read_back.proofs.laws.lines_are_canonical.Goals as goal

pub returns : goal.returns
returns c = λ f is l. line_canonical f is l
