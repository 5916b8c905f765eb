use Rattle.std.proofs.Common.{◌-◌, length, drop}
use Rattle.ir_core.specs.Uses.{targets_used, targets}
use Rattle.ir_core.specs.Viewed.{instruction_of}
use Rattle.ir_semantics.specs.Available.{Available}
use Rattle.used_values.proofs.Using.{Left}
use Rattle.used_values.proofs.uses.are_targets_available.Given as goal

abbrev pub invariant-loop-target : goal.invariant-loop-target
invariant-loop-target l = Left (Available l.avail l.block l.index) (targets_used (targets (instruction_of l.inst))) (targets_used (drop l.i (targets (instruction_of l.inst))))

abbrev pub decreases-loop-target : goal.decreases-loop-target
decreases-loop-target l = length (targets (instruction_of l.inst)) - l.i
