-- Which body is published under a ticket. Tickets are numbered by the order of pieces, from callees to callers.
use Rattle.std.specs.Prelude.{ℕ, Option, IsSomeAnd, length, slice_get}
use Rattle.ir_core.specs.Module.{Function, Module}
use Rattle.ir_core.specs.Lookup.{and_then, find_function}
use Rattle.call_graph.specs.Order.{bottom_up}
use Rattle.inline_finish.specs.declared.bodies.Policy.{Policy}
use Rattle.inline_finish.specs.declared.bodies.Built.{Built}
use Rattle.inline_finish.specs.Building.{policy_of, IsBuilt}
use Rattle.publish_table.specs.declared.job.Job.{Job}

-- how many tickets there are: one for each function
abbrev pub tickets : Job → ℕ
tickets job = length job.functions.value

-- the function whose body is to be published under a ticket
abbrev pub function_of : Module → ℕ → Option Function
function_of m t = and_then (slice_get (bottom_up m) t) (λ name. find_function name m)

-- the body of ticket t is finished
unfoldable pub FinishedOf : Policy → Module → ℕ → Built → Type 0
FinishedOf p m t built = IsSomeAnd (function_of m t) (λ f. IsBuilt (policy_of p) m f built)

abbrev pub IsFinished : Job → ℕ → Built → Type 0
IsFinished job t built = FinishedOf job.policy job.functions.value t built
