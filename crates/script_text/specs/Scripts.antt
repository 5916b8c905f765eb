-- Which readings a text has, and where a text that has none goes wrong.
use Rattle.std.specs.Prelude.{◌≡◌, ℕ, List, length}
use Rattle.grammar.specs.Rules.{Rule, Tree, Cut, Derives, Begins, GoesNoFurther}
use Rattle.token_reader.specs.Next.{spot_or}
use Rattle.token_reader.specs.declared.stop.Stop.{Stop}
use Rattle.token_reader.specs.declared.stop.Stop.TheVariants as stops
use Rattle.script_text.specs.declared.scripts.ScriptErr.{ScriptErr}
use Rattle.script_text.specs.declared.scripts.ScriptErr.TheVariants.{BadScript, NoMemory}
use Rattle.script_text.specs.Lexed.{lexed}

-- the text is one of the rule, in one way, and means this
abbrev pub Reads : {A : Type 0} (rule : Rule) → (Tree rule → A) → List ℕ → A → Type 0
Reads rule value text x =
    (v : Tree rule) × Derives rule (lexed text) v × (x ≡ value v)
    × ((w : Tree rule) → Derives rule (lexed text) w → w ≡ v)

-- The text is none of the rule. This is the first byte of the first token with which no text of the rule goes on, or
-- the text's end.
abbrev pub StopsIn : Rule → List ℕ → ℕ → Type 0
StopsIn rule text spot =
    Cut (lexed text) (λ us rest. Begins rule us × GoesNoFurther rule us rest × (spot ≡ spot_or (length text) rest))

-- what an error says of the text; want of memory says nothing
abbrev pub Refuses : Rule → List ℕ → ScriptErr → Type 0
Refuses rule text (BadScript spot) = StopsIn rule text spot
Refuses rule text NoMemory = Unit {0}

-- why reading stopped, and at which byte
abbrev pub error_at : Stop → ℕ → ScriptErr
error_at stops.NoMemory spot = NoMemory
error_at stops.Syntax spot = BadScript spot
error_at stops.UnknownOpcode spot = BadScript spot
error_at stops.Unsupported spot = BadScript spot
