-- Finished bodies do not depend on the numbers of the bodies that go into them.
use Rattle.std.specs.Prelude.{◌≡◌, ⊤, Option, Some, None}
use Rattle.ir_core.specs.declared.names.FuncName.{FuncName}
use Rattle.ir_core.specs.Lists.{In}
use Rattle.ir_core.specs.Module.{Function, Module}
use Rattle.ir_core.specs.WellFormed.{IsModule}
use Rattle.ir_semantics.specs.Accepted.{Accepted}
use Rattle.ir_semantics.specs.Canon.{SameFunction}
use Rattle.inline_pass.specs.Policy.{Policy}
use Rattle.inline_pass.specs.Finished.{finish_by, finished, finished_body}
use Rattle.inline_pass.specs.Inlined.{inlined, inlined_with}

-- no body, or one that is the same up to numbering
abbrev pub SameBody : Option Function → Option Function → Type 0
SameBody None None = ⊤
SameBody (Some g) (Some h) = SameFunction g h
SameBody (Some g) None = ⊥
SameBody None (Some h) = ⊥

-- a function finished with bodies that are the finished ones up to numbering is the finished one up to numbering, with
-- as many sites inlined
abbrev pub FinishedRespectNumbers : Type 0
FinishedRespectNumbers =
    (p : Policy) (m : Module) → IsModule m → Accepted m → (f : Function) → In f m
    → (bodies : FuncName → Option Function) → ((x : FuncName) → SameBody (finished_body p m f.name x) (bodies x))
    → SameFunction (finished p m f) (finish_by bodies p f) × (inlined_with bodies p f ≡ inlined p m f)
