-- The grammar of a `run:`, as EBNF is written. Its tokens are bytes.
use Rattle.std.specs.Prelude.{◌≡◌, ℕ, true, refl, List, ◌∷◌, map, Option, Some, None, Ok, Err}
use Rattle.grammar.specs.Rules.{Lexeme, Rule, Tok, Opt, Many, Tree, good, read_all}
use Rattle.clif_words.specs.Terminals.{◌then◌, ◌or◌}
use Rattle.token_reader.specs.Values.{◌otherwise◌}
use Rattle.test_directives.specs.declared.marks.Mark.{Mark}
use Rattle.test_directives.specs.declared.marks.Mark.TheVariants.{Blank, LeftParen, RightParen, LeftBracket}
use Rattle.test_directives.specs.declared.marks.Mark.TheVariants.{RightBracket, Equals, Bang, Other}
use Rattle.test_directives.specs.Marks.{code, bytes_from}

abbrev pub one : Mark → Rule
one mark = Tok (code mark)

-- a byte that is no mark
abbrev pub letter : Rule
letter = one Blank or one Other

-- what stands between marks: a name, or numbers
abbrev pub field : Rule
field = Many letter

abbrev pub blanks : Rule
blanks = Many (one Blank)

-- [1, -2]
abbrev pub listed : Rule
listed = one LeftBracket then field then one RightBracket then blanks

-- a byte of a number, a trap or a throw
abbrev pub plain_letter : Rule
plain_letter = letter or one LeftParen or one RightParen

-- 3, `trap int_divz` or `throw tag3 (7, 8)`
abbrev pub plain : Rule
plain = one Other then Many plain_letter

abbrev pub expectation : Rule
expectation = blanks then (listed or plain)

-- what is behind `==` or `!=`, by the first byte of these
abbrev pub signed : Mark → Rule
signed mark = one mark then one Equals then expectation

abbrev pub wanted : Rule
wanted = blanks then Opt (signed Equals or signed Bang)

-- %f(1, -2) == 3
abbrev pub run : Rule
run = field then one LeftParen then field then one RightParen then wanted

-- the next byte always says which way to go
pub run_is_good : good run ≡ true
run_is_good = refl

-- ---- the texts of parts

abbrev pub byte : Lexeme → ℕ
byte x = x.number

abbrev pub letter_byte : Tree letter → ℕ
letter_byte = byte otherwise byte

abbrev pub plain_byte : Tree plain_letter → ℕ
plain_byte = letter_byte otherwise byte otherwise byte

abbrev pub field_text : Tree field → List ℕ
field_text v = map letter_byte v

abbrev pub plain_text : Tree plain → List ℕ
plain_text v = byte v.0 ∷ map plain_byte v.1

-- ---- meanings

-- what a text whose first byte stands at this spot means, if all of it is one of the rule
unfoldable pub meaning_from : {A : Type 0} → (spot : ℕ) (rule : Rule) → (Tree rule → Option A) → List ℕ → Option A
meaning_from spot rule value text = elim (read_all rule (bytes_from spot text)) [ Err stop ↦ None | Ok v ↦ value v ]

abbrev pub meaning : {A : Type 0} (rule : Rule) → (Tree rule → Option A) → List ℕ → Option A
meaning rule value text = meaning_from 0 rule value text
