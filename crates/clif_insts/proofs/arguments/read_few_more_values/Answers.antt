use Rattle.std.proofs.Common.{[], ◌∷◌, length, refl, sym, ◌∙◌, arith}
use Rattle.clif_words.specs.declared.class.Class.TheVariants as classes
use Rattle.clif_words.specs.Classes.{code}
use Rattle.token_reader.specs.Reading.{name_at, comma_at, more_at}
use Rattle.clif_insts.specs.Arguments.{more_values_at}
use Rattle.token_reader.proofs.Loops.{is_done}
use Rattle.clif_insts.proofs.arguments.read_few_more_values.Goals as goal

pub returns-else-next_is-clause-is : goal.returns-else-next_is-clause-is
unfolding more_at
returns-else-next_is-clause-is c =
    rw c.one.ensures
    (is_done (comma_at (name_at classes.Value)) (code classes.Comma ∷ []) (c.args.first ∷ []) c.args.reader.now (more_values_at (c.args.first ∷ []) c.args.reader.now)
    (sym c.next_is.ensures ∙ c.if-next_is.false) (length c.args.reader.now, omega arith, refl))
