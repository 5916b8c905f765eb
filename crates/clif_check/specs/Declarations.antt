-- The rule on callee declarations, which speaks of other functions, and the rules without it.
use Rattle.std.specs.Prelude.{◌≡◌, ◌≤◌, ◌<◌, ℕ, Some, [], length, slice_get}
use Rattle.ir_core.specs.Lists.{Each}
use Rattle.ir_core.specs.Module.{Function, Module}
use Rattle.ir_semantics.specs.Accepted.{RulesHold}
use Rattle.ir_semantics.specs.CallRules.{Declared}

-- every rule holds at the function but the one that looks at others: that a callee declaration states the signature of
-- the function that it names
abbrev pub KeepsOwnRules : Function → Type 0
KeepsOwnRules f = RulesHold [] f

-- each callee declaration of the function at a place of the module that names a function there states its signature
abbrev pub DeclaresAt : Module → ℕ → Type 0
DeclaresAt m place = (f : Function) → slice_get m place ≡ Some f → Each (Declared m f) f.callees

-- so each of the functions from the first place on and before the second
abbrev pub DeclareWithin : Module → ℕ → ℕ → Type 0
DeclareWithin m from to = (place : ℕ) → from ≤ place → place < to → DeclaresAt m place

-- two places of the module, one behind the other or the same
pub record IsFunctionRange (m : Module) (from to : ℕ) : Type 0 where
  pub ordered : from ≤ to
  pub within : to ≤ length m
