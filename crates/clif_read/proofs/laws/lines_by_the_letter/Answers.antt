use Rattle.clif_read.proofs.LetterLines.{lines_alike}
use Rattle.clif_read.proofs.laws.lines_by_the_letter.Goals as goal

pub returns : goal.returns
returns c = lines_alike
