use Rattle.std.proofs.Common.{◌-◌, ◌≡◌, ◌≤◌, length}
use Rattle.clif_insts.specs.Insts.{place_of}
use Rattle.clif_insts.proofs.insts.find_place.Given as goal

abbrev pub invariant-counted : goal.invariant-counted
invariant-counted l = (l.place ≤ length l.tokens) × (place_of l.tokens l.place l.spot ≡ place_of l.tokens l.i l.spot)

-- proposed from the loop's first test
abbrev pub decreases-counted : goal.decreases-counted
decreases-counted l = l.end - l.place
