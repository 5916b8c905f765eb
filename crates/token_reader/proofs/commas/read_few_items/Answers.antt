use Rattle.std.proofs.Common.{[], ◌∷◌, length, refl, sym, ◌∙◌, arith}
use Rattle.clif_words.specs.declared.class.Class.TheVariants.{Comma}
use Rattle.clif_words.specs.Classes.{code}
use Rattle.token_reader.specs.Reading.{comma_at, more_at, commas_at}
use Rattle.token_reader.proofs.Loops.{is_done}
use Rattle.token_reader.proofs.commas.read_few_items.Goals as goal

pub returns-else-next_is-clause-is : goal.returns-else-next_is-clause-is
unfolding commas_at more_at
returns-else-next_is-clause-is g c =
    let p = g.I.Items.item_at c.args.items.now in
    rw (c.in_ok-first.ensures.is, c.one.ensures)
    (is_done (comma_at p) (code Comma ∷ []) (c.in_ok-first.first ∷ []) c.read_item.new.reader (more_at p (c.in_ok-first.first ∷ []) c.read_item.new.reader)
    (sym c.next_is.ensures ∙ c.if-next_is.false) (length c.read_item.new.reader, omega arith, refl))
