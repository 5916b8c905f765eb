use Rattle.std.proofs.Common.{◌≡◌, take}
use Rattle.std.specs.Prelude.{flat_map}
use Rattle.clif_meaning.specs.Spots.{line_spots}
use Rattle.clif_resolve.proofs.places.line_spots.Given as goal

abbrev pub invariant-loop-line : goal.invariant-loop-line
invariant-loop-line l = l.spots.items ≡ flat_map line_spots (take l.line-index l.lines)
