-- The entry of a run, by the spelling of its name in the canonical text.
use Rattle.std.specs.Prelude.{◌≡◌, ◌≢◌, ◌<◌, ◌^◌, ⊤, ℕ, ℤ, List, Some, slice_get}
use Rattle.ir_core.specs.declared.names.FuncName.{FuncName}
use Rattle.ir_core.specs.declared.names.FuncName.TheVariants as name
use Rattle.ir_core.specs.Module.{Function, Module}
use Rattle.ir_core.specs.Lookup.{find_function}
use Rattle.ir_semantics.specs.Values.{Memory}
use Rattle.ir_text.specs.TextTree.{spelled}
use Rattle.ir_text.specs.TextDeclarations.{function_name}
use Rattle.host_script.specs.declared.script.Script.{Script}
use Rattle.interp.specs.declared.outcome.Outcome.{Outcome}
use Rattle.interp_run.specs.Answers.{IsRunOf, IsRefusal}
use Rattle.interp_run.specs.declared.run.RunErr.{RunErr}
use Rattle.interp_run.specs.declared.run.RunErr.TheVariants as err

-- `%f` or `u0:1`
abbrev pub spelling : FuncName → List ℕ
spelling name = spelled (function_name name)

-- the numbers of a name are below 2^32, as those of the code are
abbrev pub HasShortNumbers : FuncName → Type 0
HasShortNumbers (name.Text bytes) = ⊤
HasShortNumbers (name.User space index) = (space < 2 ^ 32) × (index < 2 ^ 32)

-- no two names have one spelling
abbrev pub NamesDiffer : Type 0
NamesDiffer = (a b : FuncName) → HasShortNumbers a → HasShortNumbers b → spelling a ≡ spelling b → a ≡ b

-- the name is spelled so, and a function of the module has it
abbrev pub IsSpelledEntry : Module → List ℕ → FuncName → Type 0
IsSpelledEntry m text name = (spelling name ≡ text) × ((f : Function) × (find_function name m ≡ Some f))

-- no function of the module has a name that is spelled so
abbrev pub HasNoEntry : Module → List ℕ → Type 0
HasNoEntry m text = (i : ℕ) (f : Function) → slice_get m i ≡ Some f → spelling f.name ≢ text

-- ---- runs by a spelling

-- the outcome, after so many steps, of the entry call of the name that is spelled so, with the values that the numbers
-- are
abbrev pub IsRunOfSpelled : Module → List ℕ → List ℤ → Script → Memory → ℕ → Outcome → Type 0
IsRunOfSpelled m text numbers script memory steps o =
    (name : FuncName) × IsSpelledEntry m text name × IsRunOf m name numbers script memory steps o

-- no function has a name that is spelled so; or one has it, and the numbers are not as many as its parameters or one is
-- no value of its parameter's type; or memory ran out
abbrev pub IsRefusalOfSpelled : Module → List ℕ → List ℤ → RunErr → Type 0
IsRefusalOfSpelled m text numbers err.NoEntry = HasNoEntry m text
IsRefusalOfSpelled m text numbers err.BadArgs =
    (name : FuncName) × IsSpelledEntry m text name × IsRefusal m name numbers err.BadArgs
IsRefusalOfSpelled m text numbers err.NoMemory = ⊤
