-- What a finished body of the code is.
use Rattle.std.specs.Prelude.{◌≡◌, ◌≤◌, Option, SomeIff}
use Rattle.ir_core.specs.Module.{Function, Module}
use Rattle.ir_core.specs.Size.{size_of}
use Rattle.ir_semantics.specs.Canon.{SameFunction}
use Rattle.inline_pass.specs.Policy as pass
use Rattle.inline_pass.specs.Finished.{finished}
use Rattle.inline_pass.specs.Inlined.{inlined}
use Rattle.splice_size.specs.declared.counts.Counts.{Counts}
use Rattle.splice_size.specs.Counts.{counts_of}
use Rattle.inline_finish.specs.declared.bodies.Policy.{Policy}
use Rattle.inline_finish.specs.declared.bodies.Built.{Built}

-- the sizes of the policy
abbrev pub policy_of : Policy → pass.Policy
policy_of p = record { callee_size = p.callee_size; caller_size = p.caller_size }

-- both sizes are within the limit of a text
pub record IsLimited (p : Policy) : Type 0 where
  pub callee_size : p.callee_size ≤ 262144
  pub caller_size : p.caller_size ≤ 262144

-- what counts of a body that a policy may take, or nothing where the body is larger than its callee size
abbrev pub AreCounts : pass.Policy → Function → Option Counts → Type 0
AreCounts p g counts = SomeIff counts (size_of g ≤ p.callee_size) (counts_of g)

-- the finished body of a function up to the numbers of values and blocks, the number of its inlined sites, and what
-- counts of the body
abbrev pub IsBuilt : pass.Policy → Module → Function → Built → Type 0
IsBuilt p m f built =
    SameFunction (finished p m f) built.func.function × (built.inlined ≡ inlined p m f)
    × AreCounts p (finished p m f) built.counts
