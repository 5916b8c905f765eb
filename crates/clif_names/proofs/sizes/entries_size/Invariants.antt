use Rattle.std.proofs.Common.{◌≡◌, ◌+◌, length, take}
use Rattle.ir_core.specs.Size.{capped, total}
use Rattle.clif_names.specs.Sizes as spec
use Rattle.clif_names.proofs.sizes.entries_size.Given as goal

abbrev pub invariant-loop-target : goal.invariant-loop-target
invariant-loop-target l = l.size ≡ capped (length l.entries + total spec.target_size (take l.target-index l.entries))
