use Rattle.std.proofs.Common.{◌≡◌, ℕ, length}
use Rattle.ir_core.specs.Lists.{In}
use Rattle.ir_core.specs.Lookup.{block_numbers}
use Rattle.ir_core.specs.Edits.{blocks_at}
use Rattle.call_graph.specs.Reach.{called_names}
use Rattle.call_graph.specs.Calls.{numbers_of, each_once, calls_in}
use Rattle.call_graph.specs.Marks.{Marked}
use Rattle.call_graph.proofs.making.find_calls.Given as goal

abbrev pub invariant-loop-block : goal.invariant-loop-block
invariant-loop-block l = record {
  left : each_once l.calls.items (numbers_of l.module (called_names l.func.function (blocks_at l.func.function.blocks l.block-iterator))) ≡ calls_in l.module l.func.function;
  there : (n : ℕ) → In n l.block-iterator → In n (block_numbers l.func.function.blocks);
  marked : Marked l.stamp l.seen.items l.calls.items;
  long : length l.seen.items ≡ length l.module;
}
