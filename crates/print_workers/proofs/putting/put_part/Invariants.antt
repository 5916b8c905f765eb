use Rattle.clif_numbers.specs.Room.{KeepsRoom}
use Rattle.print_workers.specs.Parts.{PutsPart}
use Rattle.print_workers.proofs.putting.put_part.Given as goal

abbrev pub invariant-loop-i : goal.invariant-loop-i
invariant-loop-i g l = record {
  part : PutsPart g.O.Output.holds l.fn.out l.out (g.F.Functions.functions l.functions) l.from l.i;
  kept : KeepsRoom l.fn.numbers l.numbers;
}
