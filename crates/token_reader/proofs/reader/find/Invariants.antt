use Rattle.std.proofs.Common.{◌≡◌, ◌≤◌, ◌-◌, take, drop}
use Rattle.clif_words.specs.Lexemes.{lexemes}
use Rattle.token_reader.proofs.reader.find.Given as goal

abbrev pub invariant-comments : goal.invariant-comments
invariant-comments l = (l.at ≤ l.«end») × (lexemes l.text (drop l.at (take l.«end» l.tokens)) ≡ lexemes l.text (drop l.from (take l.«end» l.tokens)))

abbrev pub decreases-comments : goal.decreases-comments
decreases-comments l = l.«end» - l.at
