use Rattle.clif_insts.proofs.FlagLetter.{flags_letter}
use Rattle.clif_insts.proofs.laws.flags_by_the_letter.Goals as goal

pub returns : goal.returns
returns c = flags_letter
