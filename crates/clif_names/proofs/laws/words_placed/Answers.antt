use Rattle.clif_names.proofs.PlaceLaws.{words_placed}
use Rattle.clif_names.proofs.laws.words_placed.Goals as goal

pub returns : goal.returns
returns c = words_placed
