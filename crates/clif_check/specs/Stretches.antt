-- What stays in memory of the functions between two places of a text.
use Rattle.std.specs.Prelude.{◌≡◌, ◌⊎◌, ℕ, zero, suc, List, [], map}
use Rattle.ir_core.specs.Edits.{Body, head_of}
use Rattle.ir_core.specs.Lists.{Each}
use Rattle.ir_core.specs.Module.{Function}
use Rattle.ir_core.specs.Sound.{IsWhole}
use Rattle.grammar.specs.Rules.{Lexeme}
use Rattle.clif_read.specs.declared.raw.RawFunction.{RawFunction}
use Rattle.clif_read.specs.declared.raw.RawModule.{RawModule}
use Rattle.clif_read.specs.Texts.{Functions, IsModuleText}
use Rattle.read_workers.specs.Ranges.{AreFunctions, IsFront}
use Rattle.clif_names.specs.FunctionNames.{NoFunctionFault}
use Rattle.clif_meaning.specs.Meaning.{FunctionsMean}
use Rattle.clif_check.specs.declared.parts.Part.{Part}
use Rattle.clif_check.specs.declared.parts.Part.TheVariants as part
use Rattle.clif_check.specs.Declarations.{KeepsOwnRules}

-- raw functions without a fault, and what each means, which keeps every rule of its own
pub record AreMeant (rs : List RawFunction) (functions : List Function) : Type 0 where
  pub free : Each NoFunctionFault rs
  pub mean : FunctionsMean rs functions
  pub whole : Each IsWhole functions
  pub own : Each KeepsOwnRules functions

-- what stays of a function: all of it, or its head
abbrev pub part_of : Part → Function → Function
part_of part.Whole = λ f. f
part_of part.Head = head_of

-- what stays of raw functions without a fault: what they mean, or the heads of that
abbrev pub AreKept : Part → List RawFunction → List Body → Type 0
AreKept p rs kept =
    (functions : List Function) × AreMeant rs functions × (map (λ b. b.function) kept ≡ map (part_of p) functions)

-- the tokens are functions of which these stay, and nothing else
abbrev pub KeptOfTokens : Part → List Lexeme → List Body → Type 0
KeptOfTokens p ts kept = (rs : List RawFunction) × Functions ts rs × AreKept p rs kept

-- between two places of the text stand functions of which these stay, and nothing else
abbrev pub KeptOfRange : Part → List ℕ → ℕ → ℕ → List Body → Type 0
KeptOfRange p text from to kept = (rs : List RawFunction) × AreFunctions text from to rs × AreKept p rs kept

-- up to a place the text is a module, behind which no Header may stand, and of its functions these stay
abbrev pub KeptOfFront : Part → List ℕ → ℕ → List Body → Type 0
KeptOfFront p text to kept = (raw : RawModule) × IsFront text to raw × AreKept p raw.functions kept

-- What stays of all that stands from one place of the text up to another: from the text's beginning on a front, unless
-- nothing is read yet, and from any later place on functions alone.
abbrev pub KeptFrom : Part → List ℕ → ℕ → ℕ → List Body → Type 0
KeptFrom p text zero to kept = ((to ≡ 0) × (kept ≡ [])) ⊎ KeptOfFront p text to kept
KeptFrom p text (suc from) to kept = KeptOfRange p text (suc from) to kept

-- the text is a raw module of whose functions these stay
abbrev pub KeptOfText : Part → List ℕ → List Body → Type 0
KeptOfText p text kept = (raw : RawModule) × IsModuleText text raw × AreKept p raw.functions kept
