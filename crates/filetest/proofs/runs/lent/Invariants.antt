use Rattle.std.proofs.Common.{◌≡◌, take, map}
use Rattle.filetest.proofs.runs.lent.Given as goal

abbrev pub invariant-loop-i : goal.invariant-loop-i
invariant-loop-i l = map (λ x. x.now) l.found.items ≡ map (λ x. x.items) (take l.i l.lines)
