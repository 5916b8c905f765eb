use Rattle.std.proofs.Common.{◌≡◌, take, map}
use Rattle.std.specs.Prelude.{flat_map}
use Rattle.clif_read.specs.declared.raw.RawBlock.{RawBlock}
use Rattle.clif_meaning.specs.Spots.{line_spots}
use Rattle.clif_resolve.proofs.places.inst_spots.Given as goal

abbrev pub invariant-loop-block : goal.invariant-loop-block
invariant-loop-block l = l.spots.items ≡ map (λ (b : RawBlock). flat_map line_spots b.lines) (take l.block-index l.blocks)
