-- The finished bodies of an accepted module are accepted, and writable where the module is and the policy's caller size
-- is within the limit of a text; so is a module that is the finished bodies up to numbering.
use Rattle.std.specs.Prelude.{◌≤◌}
use Rattle.ir_core.specs.Module.{Module}
use Rattle.ir_core.specs.WellFormed.{IsModule}
use Rattle.ir_semantics.specs.Accepted.{Accepted}
use Rattle.ir_semantics.specs.Canon.{SameUpToNumbering}
use Rattle.ir_text.specs.Writable.{Writable}
use Rattle.inline_pass.specs.Policy.{Policy}
use Rattle.inline_pass.specs.Finished.{passed}

abbrev pub FinishedAccepted : Type 0
FinishedAccepted = (p : Policy) (m : Module) → IsModule m → Accepted m → IsModule (passed p m) × Accepted (passed p m)

abbrev pub RenumberedFinishedAccepted : Type 0
RenumberedFinishedAccepted =
    (p : Policy) (m r : Module) → IsModule m → Accepted m → SameUpToNumbering (passed p m) r → IsModule r × Accepted r

abbrev pub FinishedWritable : Type 0
FinishedWritable =
    (p : Policy) → p.caller_size ≤ 262144 → (m : Module) → IsModule m → Accepted m → Writable m
    → Writable (passed p m)

abbrev pub RenumberedFinishedWritable : Type 0
RenumberedFinishedWritable =
    (p : Policy) → p.caller_size ≤ 262144 → (m r : Module) → IsModule m → Accepted m → Writable m
    → SameUpToNumbering (passed p m) r → Writable r
