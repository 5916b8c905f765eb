use Rattle.inline_numbering.proofs.Sides.{joined, sides_carry}
use Rattle.inline_numbering.proofs.laws.sides_carry.Goals as goal

pub returns : goal.returns
returns c = λ r s m b d g h e f w. (joined r s m, sides_carry r s m b d g h e f w)
