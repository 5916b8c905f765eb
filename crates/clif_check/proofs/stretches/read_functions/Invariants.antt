use Rattle.std.proofs.Common.{List, ◌∷◌, [], length}
use Rattle.clif_words.specs.declared.class.Class.TheVariants as classes
use Rattle.clif_words.specs.Classes.{code}
use Rattle.token_reader.specs.Reading.{each, with_front}
use Rattle.token_reader.proofs.Loops.{Keeps}
use Rattle.clif_read.specs.declared.raw.RawFunction.{RawFunction}
use Rattle.clif_read.specs.Modules.{function_at}
use Rattle.clif_check.specs.Stretches.{AreKept}
use Rattle.clif_check.proofs.stretches.read_functions.Given as goal

abbrev pub invariant-functions : goal.invariant-functions
invariant-functions l =
    (rs : List RawFunction)
    × Keeps function_at (code classes.Function ∷ []) rs l.reader (with_front (let none : List RawFunction = [] in none) (each function_at (code classes.Function ∷ []) (length l.fn.reader) l.fn.reader))
    × AreKept l.fn.part rs l.functions.items

abbrev pub decreases-functions : goal.decreases-functions
decreases-functions l = length l.reader
