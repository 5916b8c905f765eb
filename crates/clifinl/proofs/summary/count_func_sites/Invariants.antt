use Rattle.std.proofs.Common.{◌≡◌, ◌+◌}
use Rattle.ir_core.specs.Lookup.{block_numbers}
use Rattle.ir_core.specs.Lists.{Each, In}
use Rattle.ir_core.specs.Size.{total}
use Rattle.clifinl.specs.GenCommand.{function_sites}
use Rattle.clifinl.proofs.Measures.{sites_at}
use Rattle.clifinl.proofs.summary.count_func_sites.Given as goal

abbrev pub invariant-loop-block : goal.invariant-loop-block
invariant-loop-block l = record {
  sum : l.sites + total (sites_at l.«module» l.func.function) l.block-iterator ≡ function_sites l.«module» l.func.function;
  there : Each (λ n. In n (block_numbers l.func.function.blocks)) l.block-iterator;
}
