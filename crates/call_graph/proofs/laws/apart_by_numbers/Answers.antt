use Rattle.call_graph.proofs.PieceNumbers as pieces
use Rattle.call_graph.proofs.laws.apart_by_numbers.Goals as goal

pub returns : goal.returns
returns c = pieces.apart_by_numbers
