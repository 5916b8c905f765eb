-- The places of a function's items as its spots.
use Rattle.clif_meaning.specs.Spots.{Spots}
use Rattle.clif_resolve.specs.declared.places.FunctionSpots.{FunctionSpots}

abbrev pub spots_of : FunctionSpots → Spots
spots_of s = record { whole = s.whole; callees = s.callees; blocks = s.blocks; insts = s.insts }
