use Rattle.std.proofs.Common.{ℕ, List, [], ◌∷◌, ◌≤◌, length}
use Rattle.clif_words.specs.declared.class.Class.TheVariants as classes
use Rattle.clif_words.specs.Classes.{code}
use Rattle.token_reader.specs.Reading.{each, with_front}
use Rattle.token_reader.proofs.Loops.{Keeps}
use Rattle.clif_read.specs.Heads.{header_at}
use Rattle.clif_read.proofs.heads.read_headers.Given as goal

abbrev pub invariant-list : goal.invariant-list
invariant-list l = Keeps header_at (code classes.Header ∷ []) l.list.items l.reader (with_front (let none : List ℕ = [] in none) (each header_at (code classes.Header ∷ []) (length l.fn.reader) l.fn.reader))
    × (length l.reader ≤ length l.fn.reader)

abbrev pub decreases-list : goal.decreases-list
decreases-list l = length l.reader
