use Rattle.std.proofs.Common.{◌≡◌, ℕ, get_or, take, length}
use Rattle.clif_numbers.proofs.PlacesLemmas.{place_from}
use Rattle.clif_numbers.proofs.places.Places.set.Given as goal

abbrev pub invariant-loop-i : goal.invariant-loop-i
invariant-loop-i l = record {
  long : length l.self-inside.places.items ≡ l.bound;
  found : (n : ℕ) → get_or l.self-inside.places.items n l.count ≡ place_from 0 l.count (take l.i l.number-items) n;
}
