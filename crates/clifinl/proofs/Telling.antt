-- What was told, whether or not the sink took all of it.
use Rattle.std.proofs.Common.{ℕ, List, [], Option, Result, Ok, Err, sym, append-nil}
use Rattle.std.specs.Prelude.{OnOk, OnErr}
use Rattle.std.specs.Io.KnownBytes.{Appends}
use Rattle.clk_flow.specs.Whole.{AppendsPrefix}

-- a whole line is a beginning of itself
pub some_of_line : {T E : Type 0} (r : Result T E) (old new : Option (List ℕ)) (line : List ℕ) → OnOk r (Appends old new line) → OnErr r (AppendsPrefix old new line) → AppendsPrefix old new line
some_of_line (Ok v) old new line whole part = (line, [], sym (append-nil line), whole)
some_of_line (Err e) old new line whole part = part
