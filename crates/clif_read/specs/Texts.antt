-- What a text is read as: the one module that it is, or where and why it is none.
use Rattle.std.specs.Prelude.{◌≡◌, ◌⊎◌, ℕ, List, map, length, Result, Ok, Err}
use Rattle.grammar.specs.Rules.{Lexeme, Kind, Many, Tree, Cut, Derives, Begins, StopsAt}
use Rattle.grammar.specs.Rules as rules
use Rattle.clif_lex.specs.declared.spans.Token.{Token}
use Rattle.clif_lex.specs.declared.faults.LexErr.{LexErr}
use Rattle.clif_lex.specs.declared.faults.TextErr.{TextErr}
use Rattle.clif_lex.specs.declared.faults.TextErr.TheVariants as errors
use Rattle.clif_lex.specs.declared.faults.TextKind.TheVariants as kinds
use Rattle.clif_lex.specs.Faults.{text_err_of}
use Rattle.clif_lex.specs.Lexing.{tokens_of}
use Rattle.clif_words.specs.Lexemes.{lexemes}
use Rattle.token_reader.specs.declared.stop.Stop.{Stop}
use Rattle.token_reader.specs.declared.stop.Stop.TheVariants as stops
use Rattle.token_reader.specs.Next.{spot_or}
use Rattle.clif_read.specs.declared.raw.RawFunction.{RawFunction}
use Rattle.clif_read.specs.declared.raw.RawModule.{RawModule}
use Rattle.clif_read.specs.ModuleGrammar.{function, module_rule}
use Rattle.clif_read.specs.ModuleValues.{function_value, module_value}

-- the tokens are this module, and are read in no other way
abbrev pub IsModule : List Lexeme → RawModule → Type 0
IsModule ts m =
    (v : Tree module_rule) × Derives module_rule ts v × (m ≡ module_value v)
    × ((w : Tree module_rule) → Derives module_rule ts w → w ≡ v)

abbrev pub NoModule : List Lexeme → Type 0
NoModule ts = (v : Tree module_rule) → Derives module_rule ts v → ⊥

-- The tokens before the spot begin a module. With the next they begin none, or there is no next, and then the spot is
-- the end. The kind is that of the words that the place refuses, and Syntax elsewhere.
abbrev pub Broken : List Lexeme → ℕ → Kind → ℕ → Type 0
Broken ts end kind spot =
    NoModule ts
    × Cut ts (λ us rest. Begins module_rule us × StopsAt module_rule us kind rest × (spot ≡ spot_or end rest))

-- why the tokens are no module; no other kind is answered
abbrev pub Stopped : List Lexeme → ℕ → TextErr → Type 0
Stopped ts end (errors.Fault kinds.Syntax spot) = Broken ts end rules.Syntax spot
Stopped ts end (errors.Fault kinds.UnknownOpcode spot) = Broken ts end rules.UnknownOpcode spot
Stopped ts end (errors.Fault kinds.Unsupported spot) = Broken ts end rules.Unsupported spot
Stopped ts end (errors.Fault kind spot) = ⊥
Stopped ts end errors.NoMemory = Unit {0}

-- the error of a stop at a token or at the end
abbrev pub error_at : Stop → ℕ → TextErr
error_at stops.Syntax spot = errors.Fault kinds.Syntax spot
error_at stops.UnknownOpcode spot = errors.Fault kinds.UnknownOpcode spot
error_at stops.Unsupported spot = errors.Fault kinds.Unsupported spot
error_at stops.NoMemory spot = errors.NoMemory

-- the text has tokens, and they are this module
pub record IsModuleText (text : List ℕ) (m : RawModule) : Type 0 where
  pub tokens : List Token
  pub lexed : tokens_of text ≡ Ok tokens
  pub read : IsModule (lexemes text tokens) m

-- the first fault of a text with these tokens, or with none
abbrev pub IsFirstFault : List ℕ → Result (List Token) LexErr → TextErr → Type 0
IsFirstFault text (Ok tokens) e = Stopped (lexemes text tokens) (length text) e
IsFirstFault text (Err fault) e = e ≡ text_err_of fault

-- Why a text is not read: its tokens have a fault, or they are no module. Memory may run out at any time.
abbrev pub IsFaultOf : List ℕ → TextErr → Type 0
IsFaultOf text e = (e ≡ errors.NoMemory) ⊎ IsFirstFault text (tokens_of text) e

-- the tokens are these functions, and nothing else
pub record Functions (ts : List Lexeme) (functions : List RawFunction) : Type 0 where
  pub trees : List (Tree function)
  pub derived : Derives (Many function) ts trees
  pub meant : functions ≡ map function_value trees
