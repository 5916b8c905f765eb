use Rattle.std.proofs.Common.{◌≡◌, ◌-◌, length, drop}
use Rattle.std.specs.List.{list_all}
use Rattle.ir_core.specs.Uses.{targets}
use Rattle.ir_core.specs.Viewed.{instruction_of}
use Rattle.used_values.specs.Nearby.{leads_to}
use Rattle.used_values.proofs.nearby.leads_to_block.Given as goal

abbrev pub invariant-loop-target : goal.invariant-loop-target
invariant-loop-target l = list_all (leads_to l.block) (drop l.i (targets (instruction_of l.inst))) ≡ list_all (leads_to l.block) (targets (instruction_of l.inst))

abbrev pub decreases-loop-target : goal.decreases-loop-target
decreases-loop-target l = length (targets (instruction_of l.inst)) - l.i
