use Rattle.std.proofs.Common.{◌≡◌, replicate, None}
use Rattle.module_pass.proofs.places.empty.Given as goal

abbrev pub invariant-loop-i : goal.invariant-loop-i
invariant-loop-i l = l.places.items ≡ replicate l.i None
