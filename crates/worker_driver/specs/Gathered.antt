-- Finished bodies in the order of their functions.
use Rattle.std.specs.Prelude.{◌≡◌, ℕ, List, map}
use Rattle.std.specs.Arc.{arc_value}
use Rattle.std.specs.declared.sync.Arc.{Arc}
use Rattle.std.specs.declared.alloc.Global.{Global}
use Rattle.ir_core.specs.Module.{Function, Module}
use Rattle.ir_semantics.specs.Canon.{SameUpToNumbering}
use Rattle.inline_pass.specs.Finished.{passed}
use Rattle.inline_pass.specs.Inlined.{inlined}
use Rattle.inline_finish.specs.declared.bodies.Built.{Built}
use Rattle.inline_finish.specs.declared.bodies.Policy.{Policy}
use Rattle.inline_finish.specs.Building.{policy_of}

-- the function of a body
abbrev pub function_in : Arc Built Global → Function
function_in body = (arc_value body).func.function

abbrev pub functions_in : List (Arc Built Global) → List Function
functions_in bodies = map function_in bodies

-- how many sites were inlined into a body
abbrev pub inlined_in : Arc Built Global → ℕ
inlined_in body = (arc_value body).inlined

-- the finished bodies of a module's functions, in its order and up to numbering, each with the number of its inlined
-- sites
pub record AreGathered (p : Policy) (m : Module) (bodies : List (Arc Built Global)) : Type 0 where
  pub same : SameUpToNumbering (passed (policy_of p) m) (functions_in bodies)
  pub counted : map inlined_in bodies ≡ map (inlined (policy_of p) m) m
