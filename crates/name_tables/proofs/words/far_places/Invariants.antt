use Rattle.std.proofs.Common.{◌≡◌, ℕ, nat_eq, get_or, take}
use Rattle.std.specs.Prelude.{position}
use Rattle.indexmap.specs.IndexMap.{get}
use Rattle.name_tables.specs.Dense.{or_far}
use Rattle.name_tables.proofs.words.far_places.Given as goal

abbrev pub invariant-loop-place : goal.invariant-loop-place
invariant-loop-place l = (n : ℕ) → or_far (get_or l.near n 0) (get nat_eq l.far n) ≡ or_far (get_or l.near n 0) (position (nat_eq n) (take l.place l.order))
