use Rattle.clif_meaning.proofs.Examples.{worked_meanings, worked_spots}
use Rattle.clif_meaning.proofs.laws.worked_texts.Goals as goal

pub returns-clause-meanings : goal.returns-clause-meanings
returns-clause-meanings c = worked_meanings

pub returns-clause-spots : goal.returns-clause-spots
returns-clause-spots c = worked_spots
