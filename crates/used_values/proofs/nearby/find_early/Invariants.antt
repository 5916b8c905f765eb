use Rattle.used_values.proofs.Passing.{Counted, GoesTo}
use Rattle.used_values.proofs.nearby.find_early.Given as goal

abbrev pub invariant-loop-added : goal.invariant-loop-added
invariant-loop-added l = record {
  counted : Counted l.func.function l.fn.block l.added-index l.fn.start l.end;
  goes : GoesTo l.func.function l.fn.block l.added-index;
}
