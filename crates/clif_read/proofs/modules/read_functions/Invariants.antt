use Rattle.std.proofs.Common.{List, ◌∷◌, [], ◌≤◌, length}
use Rattle.clif_words.specs.declared.class.Class.TheVariants as classes
use Rattle.clif_read.specs.declared.raw.RawFunction.{RawFunction}
use Rattle.clif_words.specs.Classes.{code}
use Rattle.token_reader.specs.Reading.{each, with_front}
use Rattle.clif_read.specs.Modules.{function_at}
use Rattle.token_reader.proofs.Loops.{Keeps}
use Rattle.clif_read.proofs.modules.read_functions.Given as goal

abbrev pub invariant-list : goal.invariant-list
invariant-list l = Keeps function_at (code classes.Function ∷ []) l.list.items l.reader (with_front (let none : List RawFunction = [] in none) (each function_at (code classes.Function ∷ []) (length l.fn.reader) l.fn.reader))
    × (length l.reader ≤ length l.fn.reader)

abbrev pub decreases-list : goal.decreases-list
decreases-list l = length l.reader
