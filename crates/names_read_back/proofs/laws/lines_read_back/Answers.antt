use Rattle.names_read_back.proofs.Types.{line_back}
use Rattle.names_read_back.proofs.laws.lines_read_back.Goals as goal

pub returns : goal.returns
returns c = λ f n at type next typed l. line_back f n at type next typed l
