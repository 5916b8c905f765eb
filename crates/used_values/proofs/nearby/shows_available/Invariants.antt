use Rattle.used_values.proofs.Passing.{BlocksLeft}
use Rattle.used_values.proofs.nearby.shows_available.Given as goal

abbrev pub invariant-loop-block : goal.invariant-loop-block
invariant-loop-block l = BlocksLeft l.func.function l.chain l.block-iterator
