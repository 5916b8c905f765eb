use Rattle.call_graph.proofs.Numbers as numbers
use Rattle.call_graph.proofs.laws.pieces_by_numbers.Goals as goal

pub returns : goal.returns
returns c = numbers.pieces_by_numbers
