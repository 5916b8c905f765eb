use Rattle.print_workers.specs.Parts.{HaveRoom}
use Rattle.print_workers.proofs.putting.numbers_between.Given as goal

abbrev pub invariant-loop-i : goal.invariant-loop-i
invariant-loop-i g l = HaveRoom (g.F.Functions.functions l.functions) l.from l.i l.numbers
