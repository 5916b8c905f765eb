use Rattle.std.proofs.Common.{◌≡◌, ◌+◌, length, take}
use Rattle.ir_core.specs.Size.{total, argument_count, capped}
use Rattle.ir_core.proofs.size.entries_size.Given as goal

abbrev pub invariant-loop-target : goal.invariant-loop-target
invariant-loop-target l = l.size ≡ capped (length l.entries + total argument_count (take l.target-index l.entries))
