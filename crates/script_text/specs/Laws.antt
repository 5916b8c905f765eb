-- What holds of readings and of places where a text goes wrong.
use Rattle.std.specs.Prelude.{◌≡◌, ℕ, List}
use Rattle.grammar.specs.Rules.{Rule, Tree, Derives}
use Rattle.script_text.specs.Lexed.{lexed}
use Rattle.script_text.specs.Scripts.{StopsIn}

-- a text has at most one place where no text of a rule goes on
abbrev pub OnePlace : Type 0
OnePlace = (rule : Rule) (text : List ℕ) (s t : ℕ) → StopsIn rule text s → StopsIn rule text t → s ≡ t

-- it has none where it is a text of the rule
abbrev pub NoneWhereRead : Type 0
NoneWhereRead =
    (rule : Rule) (text : List ℕ) (spot : ℕ) (v : Tree rule) → Derives rule (lexed text) v → StopsIn rule text spot → ⊥
