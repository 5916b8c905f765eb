use Rattle.std.proofs.Common.{◌≡◌, ◌+◌, length, take, map}
use Rattle.ir_core.specs.Size.{capped, total}
use Rattle.clif_names.specs.Sizes as spec
use Rattle.clif_names.proofs.sizes.table_size.Given as goal

abbrev pub invariant-loop-entry : goal.invariant-loop-entry
invariant-loop-entry l = l.size ≡ capped (length l.table + total spec.target_size (map (λ e. e.target) (take l.entry-index l.table)))
