-- The bytes of a `run:` as its grammar sees them.
use Rattle.std.specs.Prelude.{ℕ, suc, ◌==◌, Bool, if◌then◌else◌, List, [], ◌∷◌, pos, Option, Some, None}
use Rattle.std.specs.List.{prefix_len}
use Rattle.grammar.specs.Rules.{Class, Lexeme, Rule, heads, member, firsts}
use Rattle.clif_lex.specs.Bytes.{is_blank}
use Rattle.test_directives.specs.declared.marks.Mark.{Mark}
use Rattle.test_directives.specs.declared.marks.Mark.TheVariants.{Blank, LeftParen, RightParen, LeftBracket}
use Rattle.test_directives.specs.declared.marks.Mark.TheVariants.{RightBracket, Equals, Bang, Other}

-- the marks, counted: no definition but this one uses the numbers
abbrev pub code : Mark → Class
code Blank = 0
code LeftParen = 1
code RightParen = 2
code LeftBracket = 3
code RightBracket = 4
code Equals = 5
code Bang = 6
code Other = 7

abbrev pub mark_of : (byte : ℕ) → Mark
mark_of c =
    if is_blank c then Blank else if c == 40 then LeftParen else if c == 41 then RightParen
    else if c == 91 then LeftBracket else if c == 93 then RightBracket else if c == 61 then Equals
    else if c == 33 then Bang else Other

-- a byte as a token of the grammar
abbrev pub token_of : (spot byte : ℕ) → Lexeme
token_of spot c = record { class = code (mark_of c); number = c; amount = pos 0; name = []; spot = spot }

-- the bytes of a text, whose first stands at this spot
abbrev pub bytes_from : (spot : ℕ) → List ℕ → List Lexeme
bytes_from spot [] = []
bytes_from spot (c ∷ cs) = token_of spot c ∷ bytes_from (suc spot) cs

-- ---- from left to right

-- what stands behind the first byte, where that is this mark
abbrev pub behind_mark : Mark → List ℕ → Option (List ℕ)
behind_mark mark [] = None
behind_mark mark (c ∷ cs) = if code (mark_of c) == code mark then Some cs else None

-- whether the first byte is this mark
abbrev pub begins : Mark → List ℕ → Bool
begins mark t = heads (code mark ∷ []) (bytes_from 0 t)

-- whether a byte is one of these
abbrev pub is_in : Rule → (byte : ℕ) → Bool
is_in rule c = member (code (mark_of c)) (firsts rule)

-- how many such bytes stand in front
abbrev pub count : Rule → List ℕ → ℕ
count rule t = prefix_len (is_in rule) t
