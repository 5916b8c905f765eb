-- What is known of the tokens of a text as the grammar sees them, whatever the text.
use Rattle.std.specs.Prelude.{◌≡◌, ◌≢◌, ℕ, ◌+◌, ◌^◌, ◌<◌, ◌≤◌, Bool, true, ◌&&◌, nat_le, List, [], ◌∷◌, map}
use Rattle.std.specs.List.{list_all}
use Rattle.grammar.specs.Rules.{Lexeme}
use Rattle.ir_core.specs.Lists.{Each}
use Rattle.clif_lex.specs.Bytes.{is_word_byte}
use Rattle.clif_lex.specs.Numbers.{is_wide}
use Rattle.clif_words.specs.declared.class.Class.TheVariants.{Name, Iconst, TryCallIndirect}
use Rattle.clif_words.specs.Classes.{code}
use Rattle.clif_words.specs.Opcodes.{opcode_of}
use Rattle.clif_words.specs.OpcodeForms.{form}

-- whether a class is that of the opcodes of a form
abbrev pub is_form : ℕ → Bool
is_form class = nat_le (code Iconst) class && nat_le class (code TryCallIndirect)

pub record IsTextToken (len : ℕ) (x : Lexeme) : Type 0 where
  -- it stands in the text, which has so many bytes
  pub inside : x.spot < len
  -- the number in a word, and the number that it spells, are of 64 bits
  pub number : x.number < 2 ^ 64
  pub amount : is_wide x.amount ≡ true
  -- a name is made of letters, digits and underscores, and is not empty
  pub name : list_all is_word_byte x.name ≡ true
  pub named : x.class ≡ code Name → x.name ≢ []
  -- the opcode of a form's class has that form
  pub opcode : is_form x.class ≡ true → code (form (opcode_of x.number)) ≡ x.class

-- each is greater than the one before, and the first is no less than `low`
abbrev pub RiseFrom : ℕ → List ℕ → Type 0
RiseFrom low [] = Unit {0}
RiseFrom low (n ∷ ns) = (low ≤ n) × RiseFrom (n + 1) ns

-- tokens of a text, in their order
pub record AreTextTokens (len : ℕ) (ts : List Lexeme) : Type 0 where
  pub each : Each (IsTextToken len) ts
  pub rising : RiseFrom 0 (map (λ (x : Lexeme). x.spot) ts)
