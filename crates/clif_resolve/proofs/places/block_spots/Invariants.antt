use Rattle.std.proofs.Common.{◌≡◌, take, map}
use Rattle.clif_read.specs.declared.raw.RawBlock.{RawBlock}
use Rattle.clif_resolve.proofs.places.block_spots.Given as goal

abbrev pub invariant-loop-block : goal.invariant-loop-block
invariant-loop-block l = l.spots.items ≡ map (λ (b : RawBlock). b.block.spot) (take l.block-index l.blocks)
