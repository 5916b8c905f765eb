use Rattle.std.proofs.Common.{sym, ◌∙◌}
use Rattle.clif_lex.proofs.Starts.{number_some}
use Rattle.clif_lex.proofs.lexing.other_at.Goals as goal

pub returns-then-begins_number-clause-some : goal.returns-then-begins_number-clause-some
returns-then-begins_number-clause-some c = rw c.number_at.ensures.is (number_some c.args.at c.args.text.now (sym c.begins_number.ensures ∙ c.if-begins_number.true))
