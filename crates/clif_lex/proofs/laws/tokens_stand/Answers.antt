use Rattle.clif_lex.proofs.Readings.{tokens_stand}
use Rattle.clif_lex.proofs.laws.tokens_stand.Goals as goal

pub returns : goal.returns
returns c = tokens_stand c.args.text.now c.args.tokens.now c.requires
