use Rattle.inline_caller.proofs.PreparedCalls.{splice_within, blocks_within, splice_last, blocks_last}
use Rattle.inline_caller.proofs.putting.put_prepared.Goals as goal

pub returns-in-Within-clause-spliced : goal.returns-in-Within-clause-spliced
returns-in-Within-clause-spliced g c = λ f at is. splice_within c.args.caller.now.function f c.put_within.new.caller.function at c.args.call is c.in-Within.body c.in-Within.is c.put_within.ensures.spliced

pub returns-in-Within-clause-blocks : goal.returns-in-Within-clause-blocks
returns-in-Within-clause-blocks g c = λ f at is. blocks_within c.args.caller.now.function f c.put_within.new.caller.function at c.args.call is c.in-Within.body c.in-Within.is c.put_within.ensures.spliced

pub returns-in-Last-clause-spliced : goal.returns-in-Last-clause-spliced
returns-in-Last-clause-spliced g c = λ f at is. splice_last c.args.caller.now.function f c.put_last.new.caller.function at c.args.call is c.in-Last.body c.in-Last.is c.put_last.ensures.spliced

pub returns-in-Last-clause-blocks : goal.returns-in-Last-clause-blocks
returns-in-Last-clause-blocks g c = λ f at is. blocks_last c.args.caller.now.function f c.put_last.new.caller.function at c.args.call is c.in-Last.body c.in-Last.is c.put_last.ensures.spliced
