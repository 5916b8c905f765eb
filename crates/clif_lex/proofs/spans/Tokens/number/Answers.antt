use Rattle.std.proofs.Common.{arith}
use Rattle.clif_lex.proofs.spans.Tokens.number.Goals as goal

pub number-requires-clause-ordered : goal.number-requires-clause-ordered
number-requires-clause-ordered c =
    let token = c.requires.inside.each c.args.i c.get.result c.get.ensures in
    omega (arith, token.some)

pub number-requires-clause-within : goal.number-requires-clause-within
number-requires-clause-within c = (c.requires.inside.each c.args.i c.get.result c.get.ensures).within

pub number-requires-clause-in_range : goal.number-requires-clause-in_range
number-requires-clause-in_range c =
    let token = c.requires.inside.each c.args.i c.get.result c.get.ensures in
    token.in_range (rw c.get.ensures at c.requires.kind)
