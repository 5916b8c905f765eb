use Rattle.std.proofs.Common.{◌∷◌, [], ◌++◌, ◌≤◌, length}
use Rattle.clif_words.specs.Classes.{code}
use Rattle.clif_words.specs.Terminals.{codes_of}
use Rattle.token_reader.specs.Reading.{each, with_front}
use Rattle.clif_insts.specs.Flags.{order_class, ordered_flag_at, begins_plain_flag}
use Rattle.token_reader.proofs.Loops.{Keeps}
use Rattle.clif_insts.proofs.flags.read_ordered_flags.Given as goal

abbrev pub invariant-list : goal.invariant-list
invariant-list l = Keeps (ordered_flag_at l.fn.order) (codes_of begins_plain_flag ++ code (order_class l.fn.order) ∷ []) l.list.items l.reader (with_front l.fn.front.items (each (ordered_flag_at l.fn.order) (codes_of begins_plain_flag ++ code (order_class l.fn.order) ∷ []) (length l.fn.reader) l.fn.reader))
    × (length l.reader ≤ length l.fn.reader)

abbrev pub decreases-list : goal.decreases-list
decreases-list l = length l.reader
