use Rattle.clif_words.specs.Words.{stems}
use Rattle.clif_words.proofs.items.find_entity.Goals as goal

pub returns : goal.returns
unfolding stems
returns c = c.find_entity_in.ensures
