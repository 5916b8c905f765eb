use Rattle.clif_read.proofs.LetterAttributes.{same_attributes}
use Rattle.clif_read.proofs.laws.attributes_by_the_letter.Goals as goal

pub returns : goal.returns
returns c = same_attributes
