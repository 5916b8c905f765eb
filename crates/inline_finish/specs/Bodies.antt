-- Finished bodies of functions of a module, by the numbers of the functions.
use Rattle.std.specs.Prelude.{◌≡◌, ℕ, List, Option, Some, true, IsSomeAnd, slice_get}
use Rattle.ir_core.specs.declared.names.FuncName.{FuncName}
use Rattle.ir_core.specs.Lists.{In}
use Rattle.ir_core.specs.Module.{Function, Module}
use Rattle.ir_semantics.specs.Canon.{SameFunction}
use Rattle.call_graph.specs.Calls.{number_of}
use Rattle.call_graph.specs.Reach.{apart, called_names}
use Rattle.inline_pass.specs.Policy.{Policy}
use Rattle.inline_pass.specs.Finished.{finished}
use Rattle.splice_size.specs.declared.counts.Counts.{Counts}
use Rattle.inline_finish.specs.Building.{AreCounts}

-- h is the finished body of the function of this number, up to the numbers of values and blocks
abbrev pub IsBodyOf : Policy → Module → ℕ → Function → Type 0
IsBodyOf p m k h = IsSomeAnd (slice_get m k) (λ g. SameFunction (finished p m g) h)

-- these are what counts of the finished body of the function of this number
abbrev pub AreCountsOf : Policy → Module → ℕ → Option Counts → Type 0
AreCountsOf p m k counts = IsSomeAnd (slice_get m k) (λ g. AreCounts p (finished p m g) counts)

-- among the functions of these numbers is each in another piece that a call of f names
abbrev pub HasCallees : Module → Function → List ℕ → Type 0
HasCallees m f has =
    (y : FuncName) → In y (called_names f f.blocks) → apart m f.name y ≡ true
    → (k : ℕ) → number_of m y ≡ Some k → In k has
