use Rattle.std.proofs.Common.{◌∷◌, [], ◌≤◌, length}
use Rattle.clif_words.specs.declared.class.Class.TheVariants as classes
use Rattle.clif_words.specs.Classes.{code}
use Rattle.token_reader.specs.Reading.{each, with_front}
use Rattle.clif_read.specs.Modules.{block_at}
use Rattle.token_reader.proofs.Loops.{Keeps}
use Rattle.clif_read.proofs.modules.read_more_blocks.Given as goal

abbrev pub invariant-list : goal.invariant-list
invariant-list l = Keeps block_at (code classes.Block ∷ []) l.list.items l.reader (with_front l.fn.front.items (each block_at (code classes.Block ∷ []) (length l.fn.reader) l.fn.reader))
    × (length l.reader ≤ length l.fn.reader)

abbrev pub decreases-list : goal.decreases-list
decreases-list l = length l.reader
