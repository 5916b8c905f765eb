use Rattle.std.proofs.Common.{◌≡◌, ◌-◌, ◌≤◌, Bool, length, drop}
use Rattle.clif_lex.specs.Lexing.{tokens_from}
use Rattle.clif_lex.proofs.lexing.blanks_end.Given as goal

abbrev pub invariant-bytes : goal.invariant-bytes
invariant-bytes l = (l.at ≤ l.end) × (l.end ≤ length l.text) × ((preamble : Bool) → tokens_from preamble 0 l.end (drop l.end l.text) ≡ tokens_from preamble 0 l.at (drop l.at l.text))

abbrev pub decreases-bytes : goal.decreases-bytes
decreases-bytes l = length l.text - l.end
