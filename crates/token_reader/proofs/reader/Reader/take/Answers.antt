use Rattle.std.proofs.Common.{sym, ◌∙◌}
use Rattle.token_reader.proofs.Takes.{takes_name, misses_name}
use Rattle.token_reader.proofs.reader.Reader.take.Goals as goal

pub returns-then-next_is-clause-is : goal.returns-then-next_is-clause-is
returns-then-next_is-clause-is c = takes_name c.args.class c.args.self.now (sym c.next_is.ensures ∙ c.if-next_is.true) c.peek_name-name.result c.advance.new.self c.peek_name-name.ensures c.advance.ensures

pub returns-else-next_is-clause-is : goal.returns-else-next_is-clause-is
returns-else-next_is-clause-is c = misses_name c.args.class c.args.self.now (sym c.next_is.ensures ∙ c.if-next_is.false)
