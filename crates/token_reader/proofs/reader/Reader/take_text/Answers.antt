use Rattle.std.proofs.Common.{sym, ◌∙◌}
use Rattle.token_reader.proofs.Names.{takes_text, misses_text}
use Rattle.token_reader.proofs.reader.Reader.take_text.Goals as goal

pub returns-in_ok-text-clause-is : goal.returns-in_ok-text-clause-is
returns-in_ok-text-clause-is c = takes_text c.args.class c.args.self.now (sym c.next_is.ensures ∙ c.if-next_is.true) c.in_ok-text.text c.advance.new.self c.in_ok-text.ensures.some c.advance.ensures

pub returns-else-next_is-clause-is : goal.returns-else-next_is-clause-is
returns-else-next_is-clause-is c = misses_text c.args.class c.args.self.now (sym c.next_is.ensures ∙ c.if-next_is.false)
