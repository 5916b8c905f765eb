use Rattle.std.proofs.Common.{ℕ}
use Rattle.ir_core.specs.Lists.{In}
use Rattle.ir_core.specs.Lookup.{block_numbers}
use Rattle.core_tests.proofs.reading.all_told.Given as goal

abbrev pub invariant-loop-block : goal.invariant-loop-block
invariant-loop-block l = (n : ℕ) → In n l.block-iterator → In n (block_numbers l.func.function.blocks)
