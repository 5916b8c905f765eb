-- The law of reach.
use Rattle.std.specs.Prelude.{◌≡◌, true}
use Rattle.ir_core.specs.declared.names.FuncName.{FuncName}
use Rattle.ir_core.specs.Module.{Module}
use Rattle.ir_core.specs.Lists.{In}
use Rattle.call_graph.specs.Reach.{calls_of, reaches}

-- a list of functions leads from x to y, each of which calls the next
pub data Leads (m : Module) : FuncName → FuncName → Type 0 where
  calls : {x y : FuncName} → In y (calls_of m x) → Leads m x y
  by_way : {x y z : FuncName} → In y (calls_of m x) → Leads m y z → Leads m x z

-- however long the list is
abbrev pub ReachIsByLists : Type 0
ReachIsByLists =
    (m : Module) (x y : FuncName) → (reaches m x y ≡ true → Leads m x y) × (Leads m x y → reaches m x y ≡ true)
