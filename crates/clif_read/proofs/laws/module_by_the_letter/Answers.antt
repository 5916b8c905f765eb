use Rattle.clif_read.proofs.LetterModule.{module_alike}
use Rattle.clif_read.proofs.laws.module_by_the_letter.Goals as goal

pub returns : goal.returns
returns c = module_alike
