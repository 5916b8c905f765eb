use Rattle.std.proofs.Common.{◌≡◌, take, map}
use Rattle.clif_meaning.specs.Spots.{function_spots}
use Rattle.clif_resolve.specs.Places.{spots_of}
use Rattle.clif_resolve.proofs.places.Places.of_functions.Given as goal

abbrev pub invariant-loop-func : goal.invariant-loop-func
invariant-loop-func l = map spots_of l.spots.items ≡ map function_spots (take l.func-index l.functions)
