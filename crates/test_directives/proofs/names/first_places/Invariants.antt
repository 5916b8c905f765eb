use Rattle.std.proofs.Common.{take}
use Rattle.test_directives.specs.Names.{ArePlaces}
use Rattle.test_directives.proofs.names.first_places.Given as goal

abbrev pub invariant-loop-place : goal.invariant-loop-place
invariant-loop-place l = ArePlaces (λ k. k.now) (take l.place l.names) l.places
