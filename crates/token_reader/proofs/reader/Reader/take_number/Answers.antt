use Rattle.std.proofs.Common.{sym, ◌∙◌}
use Rattle.token_reader.proofs.Takes.{takes_amount, misses_amount}
use Rattle.token_reader.proofs.reader.Reader.take_number.Goals as goal

pub returns-then-next_is-clause-is : goal.returns-then-next_is-clause-is
returns-then-next_is-clause-is c = takes_amount c.args.class c.args.self.now (sym c.next_is.ensures ∙ c.if-next_is.true) c.peek_number-number.result c.advance.new.self c.peek_number-number.ensures c.advance.ensures

pub returns-else-next_is-clause-is : goal.returns-else-next_is-clause-is
returns-else-next_is-clause-is c = misses_amount c.args.class c.args.self.now (sym c.next_is.ensures ∙ c.if-next_is.false)
