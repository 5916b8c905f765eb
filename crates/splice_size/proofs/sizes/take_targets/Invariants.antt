use Rattle.std.proofs.Common.{◌≡◌, ◌+◌, length, take}
use Rattle.ir_core.specs.Size.{total, argument_count}
use Rattle.splice_size.proofs.sizes.take_targets.Given as goal

abbrev pub invariant-loop-target : goal.invariant-loop-target
invariant-loop-target l = l.left + (length l.entries + total argument_count (take l.target-index l.entries)) ≡ l.fn.left
