use Rattle.std.proofs.Common.{◌≡◌, ◌+◌, length, take}
use Rattle.ir_core.specs.Uses.{table_targets}
use Rattle.ir_core.specs.Size.{total, argument_count}
use Rattle.splice_size.proofs.sizes.take_entries.Given as goal

abbrev pub invariant-loop-entry : goal.invariant-loop-entry
invariant-loop-entry l = l.left + (length l.entries + total argument_count (table_targets (take l.entry-index l.entries))) ≡ l.fn.left
