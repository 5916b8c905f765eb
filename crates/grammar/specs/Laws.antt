-- What holds of the definitions.
use Rattle.std.specs.Prelude.{◌≡◌, List, ◌++◌}
use Rattle.grammar.specs.Rules.{Lexeme, Kind, Rule, Begins, StopsAt}

-- where no text of the rule goes on is one place, and why it doesn't is one kind
abbrev pub OneStop : Type 0
OneStop =
    (r : Rule) (us rest ws more : List Lexeme) (j k : Kind) → us ++ rest ≡ ws ++ more
    → Begins r us → StopsAt r us j rest → Begins r ws → StopsAt r ws k more → (j ≡ k) × (rest ≡ more)
