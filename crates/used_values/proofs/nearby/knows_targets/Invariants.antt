use Rattle.std.proofs.Common.{◌≡◌, ◌-◌, length, drop}
use Rattle.std.specs.List.{list_all}
use Rattle.ir_core.specs.Uses.{targets}
use Rattle.ir_core.specs.Viewed.{instruction_of}
use Rattle.used_values.specs.Nearby.{knows_target}
use Rattle.used_values.proofs.nearby.knows_targets.Given as goal

abbrev pub invariant-loop-target : goal.invariant-loop-target
invariant-loop-target l = list_all (knows_target l.known) (drop l.i (targets (instruction_of l.inst))) ≡ list_all (knows_target l.known) (targets (instruction_of l.inst))

abbrev pub decreases-loop-target : goal.decreases-loop-target
decreases-loop-target l = length (targets (instruction_of l.inst)) - l.i
