use Rattle.clif_lex.proofs.Readings.{if_token_in_text}
use Rattle.clif_lex.proofs.laws.token_in_text.Goals as goal

pub returns : goal.returns
returns c = if_token_in_text c.args.text.now c.args.tokens.now c.requires.whole c.args.i
