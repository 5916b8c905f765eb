use Rattle.std.proofs.Common.{◌≡◌, take}
use Rattle.std.specs.Prelude.{flat_map}
use Rattle.name_tables.specs.Definitions.{callee_names}
use Rattle.clif_meaning.specs.Spots.{word_spots}
use Rattle.clif_resolve.proofs.places.callee_spots.Given as goal

abbrev pub invariant-loop-decl : goal.invariant-loop-decl
invariant-loop-decl l = l.spots.items ≡ word_spots (flat_map callee_names (take l.decl-index l.decls))
