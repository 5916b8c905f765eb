use Rattle.ir_core.specs.Lists.{In, Each}
use Rattle.ir_core.specs.Lookup.{block_numbers}
use Rattle.ir_core.specs.Module.{Module}
use Rattle.ir_check.specs.Faults.{last_rules, tried_at, block_items}
use Rattle.ir_check.proofs.Searching.{Rest, numbered_items}
use Rattle.ir_check.proofs.late.find_use_in_blocks.Given as goal

abbrev pub invariant-loop-block : goal.invariant-loop-block
invariant-loop-block l = record {
  left : (m : Module) → Rest m (tried_at last_rules l.number l.func.function (block_items l.func.function.blocks)) (tried_at last_rules l.number l.func.function (numbered_items l.func.function l.block-iterator));
  there : Each (λ n. In n (block_numbers l.func.function.blocks)) l.block-iterator;
}
