use Rattle.std.proofs.Common.{◌≡◌, take}
use Rattle.ir_core.specs.Size.{capped, total}
use Rattle.clif_names.specs.Sizes as spec
use Rattle.clif_names.proofs.sizes.blocks_size.Given as goal

abbrev pub invariant-loop-block : goal.invariant-loop-block
invariant-loop-block l = l.size ≡ capped (total spec.block_size (take l.block-index l.blocks))
