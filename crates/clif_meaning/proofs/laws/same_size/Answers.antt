use Rattle.clif_meaning.proofs.SizeLaws.{same_size}
use Rattle.clif_meaning.proofs.laws.same_size.Goals as goal

pub returns : goal.returns
returns c = same_size
