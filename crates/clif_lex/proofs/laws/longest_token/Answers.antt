use Rattle.clif_lex.proofs.Longest.{stands}
use Rattle.clif_lex.proofs.laws.longest_token.Goals as goal

pub returns : goal.returns
returns c = stands c.args.preamble c.args.at c.args.text.now
