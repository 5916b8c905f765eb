-- The attributes of a parameter by the letter of the EBNF: { "uext" | "sext" | "vmctx" | "sret" }, where at most one of
-- `uext` and `sext` stands, and at most one of `vmctx` and `sret`.
use Rattle.std.specs.Prelude.{◌≡◌, Bool, true, false, not, ◌≤◌, List, [], ◌++◌, map, count_by}
use Rattle.grammar.specs.Rules.{Lexeme, Rule, Opt, Many, Tree, Begins}
use Rattle.clif_words.specs.Terminals.{◌then◌, ◌or◌, ext}
use Rattle.token_reader.specs.Grammar.{any_type}
use Rattle.token_reader.specs.Values.{◌otherwise◌, perhaps}
use Rattle.clif_read.specs.declared.raw.RawAttribute.{RawAttribute}
use Rattle.clif_read.specs.declared.raw.RawAttribute.TheVariants.{Uext, Sext, Vmctx, Sret}
use Rattle.clif_read.specs.Alike.{Means}
use Rattle.clif_read.specs.ModuleGrammar.{purpose, param}
use Rattle.clif_read.specs.DeclarationValues.{ext_value, purpose_value, attributes_value}

-- { "uext" | "sext" | "vmctx" | "sret" }
abbrev pub letter_attributes : Rule
letter_attributes = Many (ext or purpose)

abbrev pub letter_value : Tree letter_attributes → List RawAttribute
letter_value v = map (ext_value otherwise purpose_value) v

abbrev pub is_ext : RawAttribute → Bool
is_ext Uext = true
is_ext Sext = true
is_ext Vmctx = false
is_ext Sret = false

abbrev pub is_purpose : RawAttribute → Bool
is_purpose a = not (is_ext a)

-- of each pair at most one
abbrev pub AtMostOne : List RawAttribute → Type 0
AtMostOne xs = (count_by is_ext xs ≤ 1) × (count_by is_purpose xs ≤ 1)

-- by the letter the tokens are these attributes
abbrev pub ByLetter : List Lexeme → List RawAttribute → Type 0
ByLetter ts xs = Means letter_attributes letter_value ts xs × AtMostOne xs

-- by the letter attributes may begin so
abbrev pub BeginsByLetter : List Lexeme → Type 0
BeginsByLetter ts = (more : List Lexeme) × (xs : List RawAttribute) × ByLetter (ts ++ more) xs

-- what stands behind the type of a parameter
abbrev pub attributes : Rule
attributes = Opt ((ext then Opt purpose) or (purpose then Opt ext))

-- by the rule of the grammar they are
abbrev pub ByRule : List Lexeme → List RawAttribute → Type 0
ByRule ts xs = Means attributes (perhaps [] attributes_value) ts xs

-- The two say the same: the same texts, with the same attributes, and the same beginnings.
pub record SameAttributes : Type 0 where
  pub of_param : param ≡ (any_type then attributes)
  pub to_letter : (ts : List Lexeme) (xs : List RawAttribute) → ByRule ts xs → ByLetter ts xs
  pub to_rule : (ts : List Lexeme) (xs : List RawAttribute) → ByLetter ts xs → ByRule ts xs
  pub begun_to_letter : (ts : List Lexeme) → Begins attributes ts → BeginsByLetter ts
  pub begun_to_rule : (ts : List Lexeme) → BeginsByLetter ts → Begins attributes ts
