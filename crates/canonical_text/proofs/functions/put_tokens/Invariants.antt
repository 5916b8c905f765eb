use Rattle.std.proofs.Common.{List, ◌∷◌, [], length}
use Rattle.clif_words.specs.declared.class.Class.TheVariants as classes
use Rattle.clif_words.specs.Classes.{code}
use Rattle.token_reader.specs.Reading.{each, with_front}
use Rattle.token_reader.proofs.Loops.{Keeps}
use Rattle.clif_read.specs.declared.raw.RawFunction.{RawFunction}
use Rattle.clif_read.specs.Modules.{function_at}
use Rattle.canonical_text.specs.Printed.{PutsPrinted}
use Rattle.canonical_text.proofs.functions.put_tokens.Given as goal

abbrev pub invariant-functions : goal.invariant-functions
invariant-functions g l =
    (rs : List RawFunction)
    × Keeps function_at (code classes.Function ∷ []) rs l.reader (with_front (let none : List RawFunction = [] in none) (each function_at (code classes.Function ∷ []) (length l.fn.reader) l.fn.reader))
    × PutsPrinted g.O.Output.holds l.fn.out l.out rs l.heads.items

abbrev pub decreases-functions : goal.decreases-functions
decreases-functions g l = length l.reader
