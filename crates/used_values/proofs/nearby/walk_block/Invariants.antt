use Rattle.used_values.proofs.Passing.{Counted, UsesAvailableTo}
use Rattle.used_values.proofs.nearby.walk_block.Given as goal

abbrev pub invariant-loop-added : goal.invariant-loop-added
invariant-loop-added l = record {
  counted : Counted l.func.function l.fn.block l.added-index l.start l.end;
  uses : UsesAvailableTo l.func.function l.fn.block l.added-index;
}
