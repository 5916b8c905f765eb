-- What a reader tells of its next token.
use Rattle.std.specs.Prelude.{◌≡◌, ℕ, Bool, false, List, [], ◌∷◌, Option, Some, None}
use Rattle.grammar.specs.Rules.{Lexeme, member}
use Rattle.clif_words.specs.declared.class.Class.{Class}
use Rattle.clif_words.specs.declared.meanings.Terminal.{Terminal}
use Rattle.clif_words.specs.Classes.{code}
use Rattle.clif_words.specs.Seen.{seen}

-- whether there is a class, and it is one of these
abbrev pub is_among : Option Class → List ℕ → Bool
is_among None codes = false
is_among (Some class) codes = member (code class) codes

-- the first byte of the next token, or this end where there is none
abbrev pub spot_or : ℕ → List Lexeme → ℕ
spot_or end [] = end
spot_or end (x ∷ xs) = x.spot

-- what the next token is, of which the grammar sees the class and the number; or there is none
abbrev pub Tells : Option Terminal → List Lexeme → Type 0
Tells None ts = ts ≡ []
Tells (Some m) ts =
    (x : Lexeme) × (xs : List Lexeme) × (ts ≡ x ∷ xs) × (x.class ≡ code (seen m).class) × (x.number ≡ (seen m).number)
