use Rattle.clif_lex.proofs.Stretches.{stretches_join}
use Rattle.clif_lex.proofs.laws.stretches_join.Goals as goal

pub returns : goal.returns
returns c = stretches_join c.args.text.now
