-- A text read in stretches: what stands between two of its places, and what the whole of it is.
use Rattle.std.specs.Prelude.{◌≡◌, ◌≤◌, ℕ, true, false, List, ◌++◌, length, slice_range}
use Rattle.clif_lex.specs.declared.spans.Token.{Token}
use Rattle.clif_lex.specs.Spelling.{AreIn}
use Rattle.clif_lex.specs.Stretches.{IsCut, IsStretch, preamble_after}
use Rattle.clif_words.specs.Lexemes.{lexemes}
use Rattle.clif_read.specs.declared.raw.RawFunction.{RawFunction}
use Rattle.clif_read.specs.declared.raw.RawModule.{RawModule}
use Rattle.clif_read.specs.Texts.{IsModule, Functions}

-- two places of the list of a text's tokens, one behind the other or the same
pub record IsTokenRange (text : List ℕ) (tokens : List Token) (from to : ℕ) : Type 0 where
  pub ordered : from ≤ to
  pub within : to ≤ length tokens
  pub inside : AreIn text tokens

-- two places at which the text may be cut, one behind the other or the same
pub record IsTextRange (text : List ℕ) (from to : ℕ) : Type 0 where
  pub ordered : from ≤ to
  pub begins : IsCut text from
  pub ends : IsCut text to

-- between two places of the text stand these functions, and nothing else
pub record AreFunctions (text : List ℕ) (from to : ℕ) (functions : List RawFunction) : Type 0 where
  pub tokens : List Token
  pub stretch : IsStretch text false from to tokens
  pub read : Functions (lexemes text tokens) functions

-- between two places of the list of a text's tokens stand these functions, and nothing else
abbrev pub AreListed : List ℕ → List Token → ℕ → ℕ → List RawFunction → Type 0
AreListed text tokens from to functions = Functions (lexemes text (slice_range tokens from to)) functions

-- the text up to a place is this module, and no Header may stand behind it
pub record IsFront (text : List ℕ) (to : ℕ) (m : RawModule) : Type 0 where
  pub tokens : List Token
  pub stretch : IsStretch text true 0 to tokens
  pub read : IsModule (lexemes text tokens) m
  pub no_headers : preamble_after true tokens ≡ false

-- a module with further functions behind its own
abbrev pub with_functions : RawModule → List RawFunction → RawModule
with_functions m more = record { headers = m.headers; functions = m.functions ++ more }
