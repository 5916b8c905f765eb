-- When two rules of a grammar say the same.
use Rattle.std.specs.Prelude.{◌≡◌, List}
use Rattle.grammar.specs.Rules.{Lexeme, Rule, Tree, Derives, Begins}

-- the tokens are a text of the rule, and it means this
abbrev pub Means : {Y : Type 0} (r : Rule) → (Tree r → Y) → List Lexeme → Y → Type 0
Means r f ts y = (v : Tree r) × Derives r ts v × (f v ≡ y)

-- Two rules have the same texts, which mean the same, and the same beginnings.
pub record Alike {Y : Type 0} (r s : Rule) (f : Tree r → Y) (g : Tree s → Y) : Type 0 where
  pub there : (ts : List Lexeme) (v : Tree r) → Derives r ts v → Means s g ts (f v)
  pub back : (ts : List Lexeme) (v : Tree s) → Derives s ts v → Means r f ts (g v)
  pub begun : (ts : List Lexeme) → Begins r ts → Begins s ts
  pub begun_back : (ts : List Lexeme) → Begins s ts → Begins r ts
