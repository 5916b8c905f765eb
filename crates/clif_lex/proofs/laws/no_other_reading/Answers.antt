use Rattle.clif_lex.proofs.OneReading.{only_reading}
use Rattle.clif_lex.proofs.laws.no_other_reading.Goals as goal

pub returns : goal.returns
returns c = only_reading c.args.text.now
