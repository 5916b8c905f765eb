use Rattle.std.proofs.Common.{arith}
use Rattle.clif_lex.proofs.spans.Tokens.spelling.Goals as goal

pub spelling-requires-clause-ordered : goal.spelling-requires-clause-ordered
spelling-requires-clause-ordered c =
    let token = c.requires.inside.each c.args.i c.get.result c.get.ensures in
    omega (arith, token.some)

pub spelling-requires-clause-within : goal.spelling-requires-clause-within
spelling-requires-clause-within c = (c.requires.inside.each c.args.i c.get.result c.get.ensures).within
