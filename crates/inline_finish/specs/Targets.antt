-- Which functions the callee declarations of a function name.
use Rattle.std.specs.Prelude.{ℕ, List, Option, None, map, if◌then◌else◌}
use Rattle.ir_core.specs.declared.names.FuncName.{FuncName}
use Rattle.ir_core.specs.Module.{Function, Module}
use Rattle.call_graph.specs.Calls.{number_of}
use Rattle.call_graph.specs.Reach.{apart}

-- the number of the function that the name has, where it is in another piece than x
abbrev pub target_of : Module → FuncName → FuncName → Option ℕ
target_of m x y = if apart m x y then number_of m y else None

-- of each callee declaration of f
abbrev pub targets_in : Module → Function → List (Option ℕ)
targets_in m f = map (λ c. target_of m f.name c.name) f.callees
