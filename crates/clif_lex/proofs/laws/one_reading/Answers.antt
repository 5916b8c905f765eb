use Rattle.clif_lex.proofs.Readings.{reading}
use Rattle.clif_lex.proofs.laws.one_reading.Goals as goal

pub returns : goal.returns
returns c = reading c.args.text.now
