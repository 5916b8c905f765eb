use Rattle.std.proofs.Common.{◌∷◌, [], ◌≤◌, length}
use Rattle.clif_words.specs.declared.class.Class.TheVariants.{Comma}
use Rattle.clif_words.specs.Classes.{code}
use Rattle.token_reader.specs.Reading.{comma_at, more_at}
use Rattle.token_reader.proofs.Loops.{Keeps}
use Rattle.token_reader.proofs.commas.read_more_items.Given as goal

abbrev pub invariant-list : goal.invariant-list
invariant-list g l = Keeps (comma_at (g.I.Items.item_at l.fn.items)) (code Comma ∷ []) l.list.items l.reader (more_at (g.I.Items.item_at l.fn.items) l.fn.front.items l.fn.reader)
    × (length l.reader ≤ length l.fn.reader)

abbrev pub decreases-list : goal.decreases-list
decreases-list g l = length l.reader
