use Rattle.clif_lex.proofs.Readings.{tokens_stand, token_inside_text}
use Rattle.std.proofs.Common.{sym, subst}
use Rattle.test_directives.specs.Placing.{AreAscending}
use Rattle.test_directives.proofs.Ascending.{module_ascends}
use Rattle.test_directives.proofs.tests.read_tests.Goals as goal

pub commands-requires-clause-inside : goal.commands-requires-clause-inside
commands-requires-clause-inside c = record { each = token_inside_text c.args.text.now c.args.tokens.now c.requires.whole }

pub read_functions-requires-clause-stand : goal.read_functions-requires-clause-stand
read_functions-requires-clause-stand c = tokens_stand c.args.text.now c.args.tokens.now c.requires.whole

pub read_functions-requires-clause-ascending : goal.read_functions-requires-clause-ascending
read_functions-requires-clause-ascending c =
    subst (AreAscending c.args.text.now 0) (sym c.as_slice.ensures) (module_ascends c.args.text.now c.args.raw.now c.requires.read)
