use Rattle.std.proofs.Common.{arith}
use Rattle.used_values.proofs.Passing.{chain_goes_on}
use Rattle.used_values.proofs.nearby.follow.Goals as goal

pub returns-clause-chain : goal.returns-clause-chain
returns-clause-chain c = λ left k.
    chain_goes_on c.args.func.now.function c.args.chain c.args.block left k c.in-Some.last c.in-Some.is (c.leads_only_to.ensures c.if-not-leads_only_to.false) c.find_early.result
    (λ v low high. c.find_early.ensures v (let e = c.if-chain-start.false in omega arith) high)
