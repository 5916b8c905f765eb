-- The laws of finished bodies: they satisfy their equation, and the pass from callees to callers gives them.
use Rattle.std.specs.Prelude.{◌≡◌, List}
use Rattle.ir_core.specs.declared.names.FuncName.{FuncName}
use Rattle.ir_core.specs.Module.{Function, Module}
use Rattle.ir_core.specs.Lists.{In}
use Rattle.ir_semantics.specs.Same.{Same}
use Rattle.ir_core.specs.WellFormed.{IsModule}
use Rattle.ir_semantics.specs.Accepted.{Accepted}
use Rattle.ir_semantics.specs.Canon.{SameUpToNumbering}
use Rattle.call_graph.specs.Order.{BottomUp}
use Rattle.inline_pass.specs.Policy.{Policy}
use Rattle.inline_pass.specs.Finished.{finish_by, finished, finished_body, passed}
use Rattle.inline_pass.specs.Pass.{pass}

-- the finished body of a function takes the finished bodies of functions in other pieces
abbrev pub FinishedEquation : Type 0
FinishedEquation =
    (p : Policy) (m : Module) → IsModule m → (f : Function) → In f m
    → finished p m f ≡ finish_by (finished_body p m f.name) p f

-- each function once, callees in other pieces before their callers
abbrev pub PassIsFinished : Type 0
PassIsFinished =
    (p : Policy) (m : Module) → IsModule m → (order : List FuncName) → BottomUp m order → pass p order m ≡ passed p m

-- so the module of finished bodies has the outcomes of the module
abbrev pub FinishedKeep : Type 0
FinishedKeep = (p : Policy) (m : Module) → IsModule m → Accepted m → Same m (passed p m)

-- a module that is the finished bodies up to numbering, as a tool answers it
abbrev pub RenumberedFinishedKeep : Type 0
RenumberedFinishedKeep =
    (p : Policy) (m r : Module) → IsModule m → Accepted m → SameUpToNumbering (passed p m) r → Same m r
