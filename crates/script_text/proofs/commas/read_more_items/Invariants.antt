use Rattle.std.proofs.Common.{◌∷◌, [], ◌≤◌, length, map}
use Rattle.token_reader.proofs.Loops.{Keeps}
use Rattle.script_text.specs.declared.terminal.Terminal.TheVariants.{Comma}
use Rattle.script_text.specs.Terminals.{code}
use Rattle.script_text.specs.Reading.{comma_at, more_at}
use Rattle.script_text.proofs.commas.read_more_items.Given as goal

abbrev pub invariant-list : goal.invariant-list
invariant-list g l =
    let p = g.I.Items.item_at l.fn.items in
    Keeps (comma_at p) (code Comma ∷ []) (map g.I.Items.seen l.list.items) l.reader (more_at p (map g.I.Items.seen l.fn.front.items) l.fn.reader)
    × (length l.reader ≤ length l.fn.reader)

abbrev pub decreases-list : goal.decreases-list
decreases-list g l = length l.reader
