-- Ranges of a module's functions, and the calls of the functions there.
use Rattle.std.specs.Prelude.{◌≡◌, ℕ, ◌≤◌, List, ◌++◌, drop, length, map}
use Rattle.ir_core.specs.Module.{Module}
use Rattle.call_graph.specs.Calls.{calls_in}

-- two places of the module, one behind the other or the same
pub record IsRange (m : Module) (from to : ℕ) : Type 0 where
  pub ordered : from ≤ to
  pub within : to ≤ length m

-- these are the calls of each function from the first place on and before the second: with the calls of those behind
-- they are the calls of all functions from the first place on
abbrev pub AreCalls : Module → ℕ → ℕ → List (List ℕ) → Type 0
AreCalls m from to calls = calls ++ map (calls_in m) (drop to m) ≡ map (calls_in m) (drop from m)
