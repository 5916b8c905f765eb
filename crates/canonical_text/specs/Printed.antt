-- Functions of a text that are printed one behind the other.
use Rattle.std.specs.Prelude.{◌≡◌, ℕ, List, map}
use Rattle.grammar.specs.Rules.{Lexeme}
use Rattle.ir_core.specs.Edits.{Body, head_of}
use Rattle.ir_core.specs.Module.{Module}
use Rattle.ir_text.specs.TextTree.{spelled}
use Rattle.ir_text.specs.Text.{more_functions}
use Rattle.clif_read.specs.declared.raw.RawFunction.{RawFunction}
use Rattle.clif_read.specs.Texts.{Functions}
use Rattle.clif_check.specs.Stretches.{AreMeant}
use Rattle.text_output.specs.Output.{Start, Puts}

-- what is left of raw functions without a fault: the heads of what they mean, and its text, each behind an empty line
pub record ArePrinted (rs : List RawFunction) (heads : List Body) (text : List ℕ) : Type 0 where
  pub functions : Module
  pub meant : AreMeant rs functions
  pub headed : map (λ b. b.function) heads ≡ map head_of functions
  pub written : text ≡ spelled (more_functions functions)

-- the tokens are functions of which this is left, and nothing else
abbrev pub PrintedOfTokens : List Lexeme → List Body → List ℕ → Type 0
PrintedOfTokens ts heads text = (rs : List RawFunction) × Functions ts rs × ArePrinted rs heads text

-- the text of what raw functions mean was put, and these are the heads of that
pub record PutsPrinted {S : Type 0} (holds : Start → S → List ℕ → Type 0) (old new : S) (rs : List RawFunction)
    (heads : List Body) : Type 0 where
  pub text : List ℕ
  pub puts : Puts holds old new text
  pub printed : ArePrinted rs heads text

-- the tokens are functions of which so was put, and nothing else
abbrev pub PutsOfTokens : {S : Type 0} → (Start → S → List ℕ → Type 0) → S → S → List Lexeme → List Body → Type 0
PutsOfTokens holds old new ts heads =
    (rs : List RawFunction) × Functions ts rs × PutsPrinted holds old new rs heads
