-- Reading from left to right: a value and the tokens behind it, or why reading stopped and the tokens from there on.
use Rattle.std.specs.Prelude.{◌≡◌, ℕ, zero, suc, Bool, if◌then◌else◌, List, [], ◌∷◌, ◌++◌, length, Result, Ok, Err}
use Rattle.grammar.specs.Rules.{Lexeme, Kind, Syntax, UnknownOpcode, Unsupported, Out, heads, token, ◌>>=◌}
use Rattle.clif_words.specs.declared.class.Class.{Class}
use Rattle.clif_words.specs.declared.class.Class.TheVariants.{Comma}
use Rattle.token_reader.specs.declared.raw.RawName.{RawName}
use Rattle.token_reader.specs.declared.raw.RawNumber.{RawNumber}
use Rattle.token_reader.specs.declared.raw.RawOpcode.{RawOpcode}
use Rattle.token_reader.specs.declared.stop.Stop.{Stop}
use Rattle.token_reader.specs.declared.stop.Stop.TheVariants as stops
use Rattle.clif_words.specs.Classes.{code}
use Rattle.clif_words.specs.Opcodes.{opcode_of}
use Rattle.clif_words.specs.Terminals.{codes_of}

-- whether the next token is of the class
abbrev pub next_is : Class → List Lexeme → Bool
next_is class ts = heads (code class ∷ []) ts

-- What a reader returned is what reading gives, and it stands behind what it read, or at the token that does not fit.
-- Want of memory may come at any time.
abbrev pub Stops : {Y : Type 0} → List Lexeme → Stop → Out Y → Type 0
Stops now stops.NoMemory given = Unit {0}
Stops now stops.Syntax given = given ≡ Err (Syntax, now)
Stops now stops.UnknownOpcode given = given ≡ Err (UnknownOpcode, now)
Stops now stops.Unsupported given = given ≡ Err (Unsupported, now)

abbrev pub Gives : {X Y : Type 0} → (X → Y) → List Lexeme → Result X Stop → Out Y → Type 0
Gives view now (Ok x) given = given ≡ Ok (view x, now)
Gives view now (Err e) given = Stops now e given

abbrev pub same : {X : Type 0} → X → X
same x = x

-- as long as the next token is of one of the classes, at most n times
unfoldable pub each : {A : Type 0} → (List Lexeme → Out A) → List ℕ → ℕ → List Lexeme → Out (List A)
each p cs zero ts = Ok ([], ts)
each p cs (suc n) ts = if heads cs ts then (p ts >>= λ x. each p cs n x.1 >>= λ y. Ok (x.0 ∷ y.0, y.1)) else Ok ([], ts)

-- what was read before, and what is still read
abbrev pub with_front : {A : Type 0} → List A → Out (List A) → Out (List A)
with_front front given = given >>= λ y. Ok (front ++ y.0, y.1)

-- the name that a word spells, the opcode that it is, and the number that a number spells
abbrev pub name : Lexeme → RawName
name x = record { number = x.number; spot = x.spot }

abbrev pub opcode_by : RawName → RawOpcode
opcode_by word = record { kind = opcode_of word.number; spot = word.spot }

abbrev pub opcode : Lexeme → RawOpcode
opcode x = opcode_by (name x)

abbrev pub amount : Lexeme → RawNumber
amount x = record { value = x.amount; spot = x.spot }

unfoldable pub name_at : Class → List Lexeme → Out RawName
name_at class ts = do
  x ← token (code class) ts
  Ok (name x.0, x.1)

unfoldable pub opcode_at : Class → List Lexeme → Out RawOpcode
opcode_at class ts = do
  word ← name_at class ts
  Ok (opcode_by word.0, word.1)

unfoldable pub amount_at : Class → List Lexeme → Out RawNumber
amount_at class ts = do
  x ← token (code class) ts
  Ok (amount x.0, x.1)

-- a comma, and an item behind it
unfoldable pub comma_at : {A : Type 0} → (List Lexeme → Out A) → List Lexeme → Out A
comma_at p ts = do
  c ← name_at Comma ts
  p c.1

-- items behind commas, after those in front
unfoldable pub more_at : {A : Type 0} → (List Lexeme → Out A) → List A → List Lexeme → Out (List A)
more_at p front ts = with_front front (each (comma_at p) (code Comma ∷ []) (length ts) ts)

-- items joined by commas, one at least
unfoldable pub commas_at : {A : Type 0} → (List Lexeme → Out A) → List Lexeme → Out (List A)
commas_at p ts = do
  x ← p ts
  more_at p (x.0 ∷ []) x.1

-- no token fits here; those of the classes are refused as this kind
abbrev pub refuse_codes : {A : Type 0} → List ℕ → Kind → List Lexeme → Out A
refuse_codes codes kind ts = Err ((if heads codes ts then kind else Syntax), ts)

abbrev pub refuse : {A : Type 0} → List Class → Kind → List Lexeme → Out A
refuse classes kind ts = refuse_codes (codes_of classes) kind ts
